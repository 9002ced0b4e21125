use Rattle.std.proofs.Common.{◌≡◌, drop, take}
use Rattle.pg_import.proofs.TextLines.{raw_lines-through, through-shorter}
use Rattle.pg_import.proofs.list.first_line.Goals as goal

pub returns : goal.returns
returns c =
    let text = c.args.text.now in
    let front : c.split_at.result.0.now ≡ take c.line_len.result text = c.split_at.ensures.front in
    let back : c.split_at.result.1.now ≡ drop c.line_len.result text = c.split_at.ensures.back in
    record {
      raw = c.split_at.result.0.now;
      lines = rw (front, back, c.line_len.ensures.front, c.line_len.ensures.rest) (raw_lines-through text c.requires);
      reads = rw c.bare_line.ensures at c.read_line.ensures;
      shorter = rw (back, c.line_len.ensures.rest) (through-shorter text c.requires);
    }
