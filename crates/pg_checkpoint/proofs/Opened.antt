-- What the opening of a checkpoint tells of it.
use Rattle.std.proofs.Common.{◌≡◌, ℕ, ◌+◌, ◌<◌, ◌^◌, List, [], ◌++◌, length, map, Option, None, Some, Result, Err, IfSome, refl, sym, ap, ap₂, subst, ◌∙◌, arith, Bool, true, false, ◌==◌, true≢false}
use Rattle.std.specs.List.{flat_map}
use Rattle.std.proofs.lemmas.Bool.{eqb-true}
use Rattle.std.proofs.lemmas.List.{append-nil, length-append, length-map, nil_from_length}
use Rattle.pg_checkpoint.specs.Bytes.{first_magic, first_rest, second_magic, second_rest, superstep_coding}
use Rattle.pg_checkpoint.specs.Contents.{IsRest, IsSaid, Says, coding_in, edges_coding, magic_of, records_of, rest_coding}
use Rattle.pg_checkpoint.specs.Reading.{IsOpening, Reads, opening_coding}
use Rattle.pg_checkpoint.specs.Records.{AreCodable, Supersteps}
use Rattle.pg_checkpoint.specs.declared.contents.Contents.{Contents}
use Rattle.pg_checkpoint.specs.declared.reading.Opening.{Opening}
use Rattle.pg_checkpoint.specs.declared.reading.Unread.{Unread}
use Rattle.pg_checkpoint.specs.declared.reading.Unread.TheVariants.{Damaged, Memory}
use Rattle.pg_checkpoint.proofs.Fading.{framed_length}
use Rattle.pg_checkpoint.proofs.Parts.{all_are_parts, all_codable, all_parts, all_same, back}
use Rattle.pg_program.specs.Coding.{IsRead}
use Rattle.pg_program.proofs.InTurn.{some_is}

module _ {V M : Type 0} (value : V → List ℕ) (message : M → List ℕ) (run partition : ℕ) where
  abbrev len_of : Option ℕ → Supersteps V M → ℕ
  len_of None records = 12 + length (first_rest value message run partition records)
  len_of (Some edges) records = 12 + length (second_rest value message run partition edges records)

  abbrev opening_of : Option ℕ → Supersteps V M → Opening
  opening_of edges records =
      record { magic = magic_of edges; len = len_of edges records; run = run; partition = partition; supersteps = length records }

  abbrev behind : Option ℕ → Supersteps V M → List ℕ
  behind edges records = edges_coding edges ++ flat_map (superstep_coding value message) records

  opens : (edges : Option ℕ) (records : Supersteps V M)
      → coding_in value message run partition edges records ≡ opening_coding (opening_of edges records) ++ behind edges records
  opens None records = refl
  opens (Some edges) records = refl

  long : (edges : Option ℕ) (records : Supersteps V M) → length (coding_in value message run partition edges records) ≡ len_of edges records
  long None records = framed_length first_magic (first_rest value message run partition records) refl
  long (Some edges) records = framed_length second_magic (second_rest value message run partition edges records) refl

none_some : {A : Type 0} (y : A) → None ≡ Some y → ⊥
none_some y e = cc

magic_fits : (edges : Option ℕ) → magic_of edges < 2 ^ 32
magic_fits None = omega arith
magic_fits (Some edges) = omega arith

same_opening : (o p : Opening) → o.magic ≡ p.magic → o.len ≡ p.len → o.run ≡ p.run → o.partition ≡ p.partition → o.supersteps ≡ p.supersteps → o ≡ p
same_opening o p a b c d e =
    ap (λ x. made x o.len o.run o.partition o.supersteps) a ∙ ap (λ x. made p.magic x o.run o.partition o.supersteps) b
    ∙ ap (λ x. made p.magic p.len x o.partition o.supersteps) c ∙ ap (λ x. made p.magic p.len p.run x o.supersteps) d
    ∙ ap (λ x. made p.magic p.len p.run p.partition x) e
  where
    made : ℕ → ℕ → ℕ → ℕ → ℕ → Opening
    made m l r q s = record { magic = m; len = l; run = r; partition = q; supersteps = s }

module _ {V M : Type 0} (is_value : V → Type 0) (value : V → List ℕ) (is_message : M → Type 0) (message : M → List ℕ) (run partition : ℕ) (bytes : List ℕ)
    (short : length bytes < 2 ^ 64) (run_fits : run < 2 ^ 64) (partition_fits : partition < 2 ^ 32) where
  abbrev Stated : Result (Contents V M) Unread → Type 0
  Stated = Says is_value value is_message message run partition bytes

  abbrev Codes : Option ℕ → Supersteps V M → Type 0
  Codes edges records = bytes ≡ coding_in value message run partition edges records

  stated : (found : Option (Opening × List ℕ)) → IsRead IsOpening opening_coding bytes found → (edges : Option ℕ) (records : Supersteps V M)
      → AreCodable is_value is_message records → Codes edges records
      → found ≡ Some (opening_of value message run partition edges records, behind value message run partition edges records)
  stated found h edges records codable is =
      let fits : IsOpening (opening_of value message run partition edges records) = record {
        magic = magic_fits edges;
        len = subst (λ n. n < 2 ^ 64) (ap length is ∙ long value message run partition edges records) short;
        run = run_fits;
        partition = partition_fits;
        supersteps = codable.0;
      } in
      h.all (opening_of value message run partition edges records) (behind value message run partition edges records) fits
      (is ∙ opens value message run partition edges records)

  -- there is no opening
  pub not_opened : (e : Unread) (remaining : List ℕ) → Reads IsOpening opening_coding bytes (Err e) remaining → Stated (Err e)
  not_opened Memory remaining h = tt
  not_opened Damaged remaining h = λ edges records small codable is. none_some _ (stated None h edges records codable is)

  module _ (o : Opening) (rest : List ℕ) (h : IsRead IsOpening opening_coding bytes (Some (o, rest))) where
    same : (edges : Option ℕ) (records : Supersteps V M) → AreCodable is_value is_message records → Codes edges records
        → (o ≡ opening_of value message run partition edges records) × (rest ≡ behind value message run partition edges records)
    same edges records codable is =
        let e = some_is (o, rest) (opening_of value message run partition edges records, behind value message run partition edges records)
        (stated (Some (o, rest)) h edges records codable is) in
        (ap (λ (x : Opening × List ℕ). x.0) e, ap (λ (x : Opening × List ℕ). x.1) e)

    -- it is of other bytes, or of another run or partition
    pub not_this : (o.len ≡ length bytes → o.run ≡ run → o.partition ≡ partition → ⊥) → Stated (Err Damaged)
    not_this fails edges records small codable is =
        let s = same edges records codable is in
        fails (ap (λ x. x.len) s.0 ∙ sym (ap length is ∙ long value message run partition edges records)) (ap (λ x. x.run) s.0)
        (ap (λ x. x.partition) s.0)

    abbrev contents_of : Option ℕ → Supersteps V M → Contents V M
    contents_of edges records = record { edges = edges; supersteps = all_parts records }

    abbrev Rest : Option (Contents V M × List ℕ) → Type 0
    Rest found = IsRead (IsRest is_value is_message o) (rest_coding value message) rest found

    found_rest : (found : Option (Contents V M × List ℕ)) → Rest found → (edges : Option ℕ) (records : Supersteps V M) → IfSome edges (λ n. n < 2 ^ 64)
        → AreCodable is_value is_message records → Codes edges records → found ≡ Some (contents_of edges records, [])
    found_rest found r edges records small codable is =
        let s = same edges records codable is in
        let whole : rest_coding value message (contents_of edges records) ≡ behind value message run partition edges records =
        ap (λ l. edges_coding edges ++ l) (all_same value message (all_parts records) ∙ ap (flat_map (superstep_coding value message)) (back records)) in
        r.all (contents_of edges records) [] (record {
          format = ap (λ x. x.magic) s.0;
          edges = small;
          supersteps = (length-map records (λ l. map _ l) ∙ sym (ap (λ x. x.supersteps) s.0), all_are_parts is_value is_message records codable.1);
        }) (s.1 ∙ sym whole ∙ sym (append-nil (rest_coding value message (contents_of edges records))))

    -- what is to stand behind it doesn't
    pub not_behind : (e : Unread) (remaining : List ℕ) → Reads (IsRest is_value is_message o) (rest_coding value message) rest (Err e) remaining → Stated (Err e)
    not_behind Memory remaining r = tt
    not_behind Damaged remaining r = λ edges records small codable is. none_some _ (found_rest None r edges records small codable is)

    -- something stands behind that
    pub not_done : (contents : Contents V M) (remaining : List ℕ) → Rest (Some (contents, remaining)) → (remaining ≡ [] → ⊥) → Stated (Err Damaged)
    not_done contents remaining r fails edges records small codable is =
        fails (ap (λ (x : Contents V M × List ℕ). x.1) (some_is _ _ (found_rest _ r edges records small codable is)))

    pub is_said : (contents : Contents V M) → o.len ≡ length bytes → o.run ≡ run → o.partition ≡ partition → Rest (Some (contents, []))
        → IsSaid is_value value is_message message run partition bytes contents
    is_said contents len_is run_is partition_is r =
        let records = records_of contents.supersteps in
        let count : length records ≡ o.supersteps = length-map contents.supersteps (λ l. map _ l) ∙ r.front.0.supersteps.0 in
        let remaining : rest ≡ behind value message run partition contents.edges records =
        r.front.1 ∙ append-nil (rest_coding value message contents) ∙ ap (λ l. edges_coding contents.edges ++ l) (all_same value message contents.supersteps) in
        let one : length bytes ≡ 28 + length rest = ap length h.front.1 ∙ length-append (opening_coding o) rest in
        let two : len_of value message run partition contents.edges records ≡ 28 + length (behind value message run partition contents.edges records) =
        sym (long value message run partition contents.edges records) ∙ ap length (opens value message run partition contents.edges records)
        ∙ length-append (opening_coding (opening_of value message run partition contents.edges records)) (behind value message run partition contents.edges records) in
        let opening : o ≡ opening_of value message run partition contents.edges records =
        same_opening o (opening_of value message run partition contents.edges records) r.front.0.format (len_is ∙ one ∙ ap (λ l. 28 + length l) remaining ∙ sym two)
        run_is partition_is (sym count) in
        record {
          codable = (
            subst (λ n. n < 2 ^ 32) (sym count) h.front.0.supersteps,
            all_codable is_value is_message contents.supersteps r.front.0.supersteps.1,
          );
          coded = h.front.1 ∙ ap₂ (λ p l. opening_coding p ++ l) opening remaining ∙ sym (opens value message run partition contents.edges records);
          only = λ edges others small codable is.
              let e = ap (λ (x : Contents V M × List ℕ). x.0) (some_is _ _ (found_rest _ r edges others small codable is)) in
              (sym (ap (λ x. x.edges) e), sym (ap (λ x. records_of x.supersteps) e ∙ back others));
        }

-- whether something is left
pub nothing_left : (l : List ℕ) (b : Bool) → b ≡ (length l == 0) → b ≡ true → l ≡ []
nothing_left l b is yields = nil_from_length l (eqb-true (length l) 0 (sym is ∙ yields))

pub something_left : (l : List ℕ) (b : Bool) → b ≡ (length l == 0) → b ≡ false → l ≡ [] → ⊥
something_left l b is yields none = true≢false (ap (λ l. length l == 0) (sym none) ∙ sym is ∙ yields)
