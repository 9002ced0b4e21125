-- The records that a reader has left, one after another.
use Rattle.std.proofs.Common.{◌≡◌, ℕ, zero, suc, ◌+◌, ◌<◌, ◌≤◌, ◌==◌, if◌then◌else◌, Bool, true, false, List, [], ◌∷◌, length, Option, None, Some}
use Rattle.std.proofs.Common.{Result, Ok, Err, IfOk, OnOk, MatchBool, MatchResult, refl, ap, sym, ◌∙◌, add-one, arith, inl, inr}
use Rattle.std.specs.Bool.{⊤}
use Rattle.std.specs.Result.{IsErrAnd}
use Rattle.std.proofs.lemmas.Bool.{cases_Bool}
use Rattle.csv.specs.Machine.{Read, ends_at_end, ends_with, after_end, in_field, is_end, next_record, start_field, start_record, step}
use Rattle.csv.specs.Reading.{ReadRecord, Reached, Ready, default_config, is_bom, reader_config, reader_state, reader_trim, records, records_from}
use Rattle.csv.specs.Reading.{records_next, source_of, strip_bom, took_first}
use Rattle.csv.specs.declared.reader.Trim.TheVariants as trim
use Rattle.csv.specs.declared.reader.Reader.{Reader}
use Rattle.csv.proofs.ReadFacts.{rows-end, rows-more}
use Rattle.pg_import.specs.Records.{IsBetweenRecords, TakesRecord, bytes_left, records_left}
use Rattle.csv.specs.declared.parser.Terminator.TheVariants as term
use Rattle.csv.specs.declared.parser.State.{State}
use Rattle.csv.specs.declared.parser.State.TheVariants as st
use Rattle.csv.specs.declared.parser.Action.{Action}
use Rattle.csv.specs.declared.parser.Action.TheVariants as act

-- a step that ends a record leaves the machine between two records
abbrev EndsBetween : State × Action → Type 0
EndsBetween next = is_end next.1 ≡ true → ends_at_end next.0 ≡ false

EndsBetween-if : (b : Bool) (x y : State × Action) → EndsBetween x → EndsBetween y → EndsBetween (if b then x else y)
EndsBetween-if true x y at_x at_y = at_x
EndsBetween-if false x y at_x at_y = at_y

after_end-between : (c : ℕ) → ends_at_end (after_end term.CRLF c) ≡ false
after_end-between c = elim (cases_Bool (c == 13)) [ inl return ↦ rw return refl | inr other ↦ rw other refl ]

in_field-ends : (c : ℕ) → EndsBetween (in_field default_config c)
in_field-ends c =
    EndsBetween-if (c == 44) _ _ (λ e. cc e)
    (EndsBetween-if (ends_with term.CRLF c) (after_end term.CRLF c, act.EndRecord) _ (λ e. after_end-between c) (λ e. cc e))

start_field-ends : (c : ℕ) → EndsBetween (start_field default_config c)
start_field-ends c = EndsBetween-if (c == 34) _ _ (λ e. cc e) (in_field-ends c)

start_record-ends : (c : ℕ) → EndsBetween (start_record default_config c)
start_record-ends c = EndsBetween-if (ends_with term.CRLF c) _ _ (λ e. refl) (start_field-ends c)

step-ends : (s : State) (c : ℕ) → EndsBetween (step default_config s c)
step-ends st.StartRecord c = start_record-ends c
step-ends st.StartField c = start_field-ends c
step-ends st.InField c = in_field-ends c
step-ends st.InQuoted c = EndsBetween-if (c == 34) _ _ (λ e. cc e) (λ e. cc e)
step-ends st.InEscape c = λ e. cc e
step-ends st.AfterQuote c = EndsBetween-if (c == 34) _ _ (λ e. cc e) (in_field-ends c)
step-ends st.InComment c = EndsBetween-if (c == 10) _ _ (λ e. refl) (λ e. cc e)
step-ends st.AfterCr c = EndsBetween-if (c == 10) _ _ (λ e. refl) (start_record-ends c)

-- what a record that was read leaves: no more bytes than there were, and a machine between two records
abbrev pub Leaves : ℕ → Option Read → Type 0
Leaves most None = ⊤
Leaves most (Some p) = (length p.2 ≤ most) × (ends_at_end p.1 ≡ false)

Leaves-if : (b : Bool) (most : ℕ) (x y : Option Read) → (b ≡ true → Leaves most x) → (b ≡ false → Leaves most y) → Leaves most (if b then x else y)
Leaves-if true most x y at_x at_y = at_x refl
Leaves-if false most x y at_x at_y = at_y refl

Leaves-more : (most more : ℕ) (r : Option Read) → most ≤ more → Leaves most r → Leaves more r
Leaves-more most more None le h = tt
Leaves-more most more (Some p) le h = (omega (arith, h.0), h.1)

next_record-leaves : (text : List ℕ) (s : State) (fields : List (List ℕ)) (field : List ℕ)
    → Leaves (length text) (next_record default_config s fields field text)
unfolding next_record
next_record-leaves [] s fields field = Leaves-if (ends_at_end s) 0 _ None (λ e. (omega arith, refl)) (λ e. tt)
next_record-leaves (c ∷ rest) s fields field =
    Leaves-if (is_end (step default_config s c).1) (length (c ∷ rest)) _ _ (λ e. (omega arith, step-ends s c e))
    (λ e. Leaves-more (length rest) (length (c ∷ rest)) _ (omega arith) (next_record-leaves rest _ _ _))

-- between two records a record that is read takes a byte at least
abbrev pub Takes : ℕ → Option Read → Type 0
Takes size None = ⊤
Takes size (Some p) = (length p.2 < size) × (ends_at_end p.1 ≡ false)

Takes-from_leaves : (most size : ℕ) (r : Option Read) → most < size → Leaves most r → Takes size r
Takes-from_leaves most size None lt h = tt
Takes-from_leaves most size (Some p) lt h = (omega (arith, h.0), h.1)

pub next_record-takes : (s : State) (text : List ℕ) → ends_at_end s ≡ false → Takes (length text) (next_record default_config s [] [] text)
unfolding next_record
next_record-takes s [] between = rw between tt
next_record-takes s (c ∷ rest) between =
    Takes-from_leaves (length rest) (length (c ∷ rest)) _ (omega arith)
    (Leaves-if (is_end (step default_config s c).1) (length rest) _ _ (λ e. (omega arith, step-ends s c e)) (λ e. next_record-leaves rest _ _ _))

same-next : (f g : State → List ℕ → List (List (List ℕ))) (size : ℕ) (r : Option Read) → Takes size r
    → ((s : State) (text : List ℕ) → length text < size → ends_at_end s ≡ false → f s text ≡ g s text) → records_next f r ≡ records_next g r
same-next f g size None takes same = refl
same-next f g size (Some p) takes same = ap (λ more. p.0 ∷ more) (same p.1 p.2 takes.0 takes.1)

-- how many records are asked for makes no difference, once they are more than the bytes
pub records_from-same : (m n : ℕ) (s : State) (text : List ℕ) → length text < m → length text < n → ends_at_end s ≡ false
    → records_from default_config m s text ≡ records_from default_config n s text
unfolding records_from
records_from-same zero n s text small_m small_n between = absurd (omega arith)
records_from-same (suc m) zero s text small_m small_n between = absurd (omega arith)
records_from-same (suc m) (suc n) s text small_m small_n between =
    same-next (records_from default_config m) (records_from default_config n) (length text) (next_record default_config s [] [] text)
    (next_record-takes s text between)
    (λ s2 rest fewer ends. records_from-same m n s2 rest (omega arith) (omega arith) ends)

-- the records from a state on, by the next one
records_from-some : (s : State) (text : List ℕ) (p : Read) → ends_at_end s ≡ false → next_record default_config s [] [] text ≡ Some p
    → (records_from default_config (length text + 1) s text ≡ p.0 ∷ records_from default_config (length p.2 + 1) p.1 p.2) ×
    (length p.2 < length text) × (ends_at_end p.1 ≡ false)
unfolding records_from
records_from-some s text p between e =
    let takes = rw e at (next_record-takes s text between) in
    (rw (add-one, e) (ap (λ more. p.0 ∷ more) (records_from-same (length text) (length p.2 + 1) p.1 p.2 takes.0 (omega arith) takes.1)), takes.0, takes.1)

records_from-none : (s : State) (text : List ℕ) → next_record default_config s [] [] text ≡ None → records_from default_config (length text + 1) s text ≡ []
unfolding records_from
records_from-none s text e = rw (add-one, e) refl

took_next : {R : Type 0} (rem : R → Option (List ℕ)) (a b : Reader R) (fields : List (List ℕ)) (z : List ℕ) (p : Read) → IsBetweenRecords rem a
    → Ready b → b.config ≡ a.config → b.trim ≡ a.trim → source_of rem b ≡ Some z
    → next_record default_config a.state [] [] (bytes_left rem a) ≡ Some p → fields ≡ p.0 → p.1 ≡ b.state → p.2 ≡ z → TakesRecord rem a b fields
unfolding records_left
took_next rem a b fields z p at ready config trim unread next is state rest =
    let more = records_from-some a.state (bytes_left rem a) p at.between next in
    let bytes : bytes_left rem b ≡ p.2 = rw unread (sym rest) in
    record {
      first = rw (bytes, is, ← state) more.0;
      fewer = rw bytes more.1;
      goes_on = record {
        config = config ∙ at.config;
        trim = trim ∙ at.trim;
        ready = ready;
        known = unread ∙ ap Some (sym rest ∙ sym bytes);
        between = rw (← state) more.2;
      };
    }

-- a read that found a record took the first of those that were left
pub takes_record : {R : Type 0} (rem : R → Option (List ℕ)) (a b : Reader R) (fields : List (List ℕ)) → IsBetweenRecords rem a → Ready b
    → ReadRecord rem a b true fields → TakesRecord rem a b fields
unfolding Reached
takes_record rem a b fields at ready read =
    let (z, unread, (p, next, is, (state, rest))) =
    rows-more rem a b fields default_config a.state (bytes_left rem a) (bytes_left rem a) [] at.config at.known (refl, refl) read in
    took_next rem a b fields z p at ready read.2 read.3 unread next is state rest

-- a read that found none had none left
pub records_left-none : {R : Type 0} (rem : R → Option (List ℕ)) (a b : Reader R) (fields : List (List ℕ)) → IsBetweenRecords rem a
    → ReadRecord rem a b false fields → records_left rem a ≡ []
unfolding records_left
records_left-none rem a b fields at read =
    records_from-none a.state (bytes_left rem a) (rows-end rem a b fields default_config (bytes_left rem a) at.config at.known read)

-- what a read found, where only an error is put in the place of another one
pub found_record : {R E F : Type 0} (Q : E → F → Type 0) (rem : R → Option (List ℕ)) (a b : Reader R) (fields : List (List ℕ))
    (read : Result Bool E) (answer : Result Bool F) → IsBetweenRecords rem a
    → IfOk read (λ found. reader_trim a ≡ trim.None → Ready a → ReadRecord rem a b found fields)
    → (reader_trim a ≡ trim.None → OnOk read (took_first b ≡ true))
    → MatchResult read (λ found. answer ≡ Ok found) (λ e. IsErrAnd answer (Q e))
    → IfOk answer (λ found. MatchBool found (TakesRecord rem a b fields) (records_left rem a ≡ []))
found_record Q rem a b fields (Ok true) answer at reads first same = rw same (takes_record rem a b fields at (inl (first at.trim)) (reads at.trim at.ready))
found_record Q rem a b fields (Ok false) answer at reads first same = rw same (records_left-none rem a b fields at (reads at.trim at.ready))
found_record Q rem a b fields (Err e) (Ok found) at reads first same = absurd same
found_record Q rem a b fields (Err e) (Err f) at reads first same = tt

length-strip_bom : (text : List ℕ) → length (strip_bom text) ≤ length text
unfolding strip_bom
length-strip_bom [] = omega arith
length-strip_bom (a ∷ []) = omega arith
length-strip_bom (a ∷ b ∷ []) = omega arith
length-strip_bom (a ∷ b ∷ c ∷ rest) = elim (cases_Bool (is_bom a b c)) [ inl mark ↦ rw mark (omega arith) | inr none ↦ rw none (omega arith) ]

-- a reader at the start of a text has all of its records left
pub record StartsText {R : Type 0} (rem : R → Option (List ℕ)) (a : Reader R) (text : List ℕ) : Type 0 where
  pub at : IsBetweenRecords rem a
  pub all : records_left rem a ≡ records default_config (strip_bom text)
  pub bytes : length (bytes_left rem a) ≤ length text

pub starts_text : {R : Type 0} (rem : R → Option (List ℕ)) (a : Reader R) (text : List ℕ) → reader_config a ≡ default_config
    → reader_trim a ≡ trim.None → Ready a → reader_state a ≡ st.StartRecord
    → source_of rem a ≡ Some (strip_bom text) → StartsText rem a text
unfolding records_left
starts_text rem a text config trim ready start source =
    let bytes : bytes_left rem a ≡ strip_bom text = rw source refl in
    record {
      at = record { config = config; trim = trim; ready = ready; known = source ∙ ap Some (sym bytes); between = rw start refl };
      all = rw (bytes, start) refl;
      bytes = rw bytes (length-strip_bom text);
    }
