-- Sessions, worked: what the definition answers to lines, with memory enough, computed.
use Rattle.std.proofs.Common.{◌≡◌, ℕ, zero, suc, ◌+◌, List, [], ◌∷◌, ◌++◌, length, None, codes, refl, pos}
use Rattle.std.specs.Prelude.{⊤}
use Rattle.pg_import.specs.Batch.{batch_of, edge_edit, vertex_edits, with_line_edge, with_vertex}
use Rattle.pg_import.specs.Import.{edge_of, edges_from, list_of, reading_of}
use Rattle.pg_import.specs.Number.{id_of, number_up_to, weight_of}
use Rattle.pg_import.specs.Text.{raw_lines}
use Rattle.pg_graph.specs.Edit.{all_edited, batch_edited, edited}
use Rattle.pg_model.specs.Needed.{inputs_at, needed_below}
use Rattle.pg_model.specs.Programs.{peel_step, sssp_step}
use Rattle.pg_model.specs.Run.{answer, configuration, first, length_from}
use Rattle.pg_model.specs.Superstep.{gathered_from, next, outcome, view_of, visible_in}
use Rattle.std.specs.Fmt.{digits}
use Rattle.pregeld.specs.Job.{ReadyJob}
use Rattle.pregeld.specs.AskedJob.{job_of_options}
use Rattle.pregeld_commands.specs.Command.{agg_of, no_arguments, command_in, command_of, edit_named, get_of, import_of, named}
use Rattle.pregeld_commands.specs.Edits.{edge_of as edge_asked, input_of, vertex_of}
use Rattle.pg_global.specs.declared.combiner.AnyCombiner.TheVariants.{NoCombiner}
use Rattle.pg_graph.specs.declared.missing.Missing.TheVariants.{Drop, Create}
use Rattle.pregeld.specs.Reply.{text_of, summary_text}
use Rattle.pg_service.specs.Printed.{json_text}
use Rattle.pg_service.specs.Service.{next_graph}
use Rattle.pregeld.specs.Session.{State, action_answer, answer_to}
use Rattle.pregeld_args.specs.declared.names.ProgramName.{ProgramName}
use Rattle.pregeld_args.specs.declared.names.ProgramName.TheVariants.{Sssp, Peel}
use Rattle.pregeld_args.specs.declared.options.Options.{Options}

-- what is answered to the next lines, so many
abbrev answers : ℕ → ReadyJob → ℕ → State → List (List ℕ) → List ℕ
answers zero job number state lines = []
answers (suc turns) job number state [] = []
answers (suc turns) job number state (line ∷ lines) =
    let a = answer_to job (command_of line) (record { number = number + 1; state = state; lines = lines }) in
    a.text ++ answers turns job a.next.number a.next.state a.next.lines

abbrev empty : State
empty = record { graph = []; edition = 0; pending = []; publications = []; report = None; kept = None }

-- a job on an empty graph
abbrev session : ReadyJob → List ℕ → List ℕ
session job input = answers (length (raw_lines input)) job 0 empty (raw_lines input)

-- what a row unfolds: how lines are read, what an import makes of the graph, the run, and what is printed
unfoldable reading : ⊤
unfolding answer_to action_answer command_in named edit_named vertex_of input_of edge_asked no_arguments agg_of get_of import_of edge_of edges_from list_of reading_of id_of number_up_to weight_of
reading = tt

unfoldable batching : ⊤
unfolding next_graph batch_edited all_edited edited batch_of edge_edit vertex_edits with_line_edge with_vertex
batching = tt

unfoldable running : ⊤
unfolding inputs_at needed_below answer configuration first length_from gathered_from next outcome view_of visible_in
running = tt

unfoldable printing : ⊤
unfolding text_of summary_text json_text digits
printing = tt

-- the options of a program where nothing else is said
abbrev defaults : ProgramName → Options
defaults program = record {
  program = program;
  source = 1;
  k = 2;
  rounds = 30;
  eps = pos 0;
  combiner = NoCombiner;
  partitions = 1;
  workers = 1;
  limit = 1000;
  every = 0;
  losses = 16;
  missing = Drop;
}

two_hops : session (job_of_options (defaults Sssp)) (codes "import list 2\n1 2 5\n2 3\nrefresh\ndump\n")
    ≡ codes "edition 1\nrefreshed edition 1 supersteps 3 ending finished calls 5 losses 0\nvalue 1 0\nvalue 2 5\nvalue 3 6\nend 3\n"
unfolding reading batching running printing sssp_step
two_hops = refl

-- a second run beside the first: the source is called again, and the end of the shortcut twice
shortcut_added : session (job_of_options (defaults Sssp)) (codes "import list 2\n1 2 5\n2 3\nrefresh\nedge 1 3 2\ncommit\nrefresh\nget 3\ncheck\n")
    ≡ codes "edition 1\nrefreshed edition 1 supersteps 3 ending finished calls 5 losses 0\nedition 2\nrefreshed edition 2 supersteps 3 ending finished calls 3 losses 0\nvalue 3 2\ncheck same calls 6\n"
unfolding reading batching running printing sssp_step
shortcut_added = refl

-- where messages make vertices: an import adds the targets of its edges, so none is made here
backwards : session (job_of_options (record (defaults Sssp) { source = 2; missing = Create })) (codes "import list 1\n2 1 5\nrefresh\ndump\n")
    ≡ codes "edition 1\nrefreshed edition 1 supersteps 2 ending finished calls 3 losses 0\nvalue 1 5\nvalue 2 0\nend 2\n"
unfolding reading batching running printing sssp_step
backwards = refl

-- the core of three vertices in a row, by the number of edges that is asked for where none is said
no_core : session (job_of_options (defaults Peel)) (codes "import list 2\n1 2 5\n2 3\nrefresh\ndump\n")
    ≡ codes "edition 1\nrefreshed edition 1 supersteps 2 ending finished calls 5 losses 0\nvalue 1 0\nvalue 2 0\nvalue 3 0\nend 3\n"
unfolding reading batching running printing peel_step
no_core = refl

-- an import beside a pending edit is a fault, and its block is set aside; the edit is made by a commit
beside_an_edit : session (job_of_options (defaults Sssp)) (codes "vertex 1\nimport list 1\n2 3\ncommit\nrefresh\ndump\n")
    ≡ codes "error 5 line 2\nedition 1\nrefreshed edition 1 supersteps 1 ending finished calls 1 losses 0\nvalue 1 0\nend 1\n"
unfolding reading batching running printing sssp_step
beside_an_edit = refl

-- a refused batch is given up
refused_batch : session (job_of_options (defaults Sssp)) (codes "import list 1\n1 2 5\nvertex 9\ninput 9 7\nedge 1 2\ncommit\ncommit\n")
    ≡ codes "edition 1\nrefused 4 position 3\nedition 2\n"
unfolding reading batching running printing sssp_step
refused_batch = refl

-- what was published is told, and compared with a run from scratch
asked : session (job_of_options (defaults Sssp)) (codes "report\nagg reached\nimport list 2\n1 2 5\n2 3\nrefresh\nget 3\nget 9\nagg reached\nagg change\nreport\ncheck\nedge 1 3 2\ncommit\ncheck\n")
    ≡ codes "unpublished\nunpublished\nedition 1\nrefreshed edition 1 supersteps 3 ending finished calls 5 losses 0\nvalue 3 6\nnone 9\naggregate reached 3\nnone change\n{\"calls\":5,\"dropped\":0,\"edition\":1,\"ending\":\"finished\",\"losses\":0,\"sent\":2,\"supersteps\":3}\ncheck same calls 5\nedition 2\ncheck stale\n"
unfolding reading batching running printing sssp_step
asked = refl
