-- What a batch makes of a graph, one edit after another.
use Rattle.std.proofs.Common.{◌≡◌, ℕ, ◌+◌, ◌<◌, ◌≤◌, ◌⊎◌, List, [], ◌∷◌, length, Result, get_or, drop, Ok, Err, inl, inr, refl, sym, ap, ◌∙◌, ⊎_elim, arith}
use Rattle.std.proofs.lemmas.Bool.{lt-ltb, le-ltb, cases_lt}
use Rattle.std.proofs.lemmas.List.{at_drop_more, at_drop_all}
use Rattle.pg_graph.specs.Edit.{edited, all_edited, batch_edited, batch_limit, RefusesBatch}
use Rattle.pg_graph_rows.specs.EditFault.{memory_fault}
use Rattle.pg_graph.specs.Rows.{Rows}
use Rattle.pg_graph_rows.specs.declared.edit.Edit.{Edit}
use Rattle.pg_graph_rows.specs.declared.edit.EditFault.{EditFault}
use Rattle.pg_graph_rows.specs.declared.edit.EditKind.{EditKind}
use Rattle.pg_graph_rows.specs.declared.edit.EditKind.TheVariants.{Memory, VertexExists, NoVertex, EdgeExists, NoEdge, BatchTooLong, Full}

pub Err_not_Ok : {X E : Type 0} {x : X} {e : E} → ◌≡◌ {A = Result X E} (Err e) (Ok x) → ⊥
Err_not_Ok h = cc

pub Ok_not_Err : {X E : Type 0} {x : X} {e : E} → ◌≡◌ {A = Result X E} (Ok x) (Err e) → ⊥
Ok_not_Err h = cc

pub Err_same : {X E : Type 0} {e f : E} → ◌≡◌ {A = Result X E} (Err e) (Err f) → e ≡ f
Err_same h = cc

pub too_long : (rows : Rows) (edits : List Edit) → batch_limit < length edits
    → batch_edited rows edits ≡ Err (record { position = batch_limit + 1; kind = BatchTooLong })
unfolding batch_edited
too_long rows edits long = rw (lt-ltb batch_limit (length edits) long) refl

pub short_enough : (rows : Rows) (edits : List Edit) → length edits ≤ batch_limit → batch_edited rows edits ≡ all_edited 1 rows edits
unfolding batch_edited
short_enough rows edits short = rw (le-ltb batch_limit (length edits) short) refl

all_edited-ok : (position : ℕ) (rows rows' : Rows) (edit : Edit) (edits : List Edit) → edited rows edit ≡ Ok rows'
    → all_edited position rows (edit ∷ edits) ≡ all_edited (position + 1) rows' edits
unfolding all_edited
all_edited-ok position rows rows' edit edits made = rw (made, all_edited) refl

all_edited-err : (position : ℕ) (rows : Rows) (edit : Edit) (edits : List Edit) (kind : EditKind) → edited rows edit ≡ Err kind
    → all_edited position rows (edit ∷ edits) ≡ Err (record { position = position; kind = kind })
unfolding all_edited
all_edited-err position rows edit edits kind why = rw (why, all_edited) refl

pub all_edited-nil : (position : ℕ) (rows : Rows) → all_edited position rows [] ≡ Ok rows
unfolding all_edited
all_edited-nil position rows = refl

module _ (position : ℕ) (rows : Rows) (edits : List Edit) (i : ℕ) (edit : Edit) (within : i < length edits) (here : edit ≡ get_or edits i edit) where
  at_edit : all_edited position rows (drop i edits) ≡ all_edited position rows (edit ∷ drop (i + 1) edits)
  at_edit = at_drop_more (all_edited position rows) edits i edit within ∙ sym (ap (λ e. all_edited position rows (e ∷ drop (i + 1) edits)) here)

  -- the next edit is made
  pub next_made : (rows' : Rows) → edited rows edit ≡ Ok rows'
      → all_edited (position + 1) rows' (drop (i + 1) edits) ≡ all_edited position rows (drop i edits)
  next_made rows' made = sym (at_edit ∙ all_edited-ok position rows rows' edit (drop (i + 1) edits) made)

  -- the next edit is refused
  pub next_refused : (kind : EditKind) → edited rows edit ≡ Err kind
      → all_edited position rows (drop i edits) ≡ Err (record { position = position; kind = kind })
  next_refused kind why = at_edit ∙ all_edited-err position rows edit (drop (i + 1) edits) kind why

-- no edit is left
pub all_made : (position : ℕ) (rows : Rows) (edits : List Edit) (i : ℕ) → length edits ≤ i → all_edited position rows (drop i edits) ≡ Ok rows
all_made position rows edits i past = at_drop_all (all_edited position rows) edits i past ∙ all_edited-nil position rows

-- ---- the places of faults

-- what comes of the first edit decides
abbrev pub after : ℕ → Rows → List Edit → Result Rows EditKind → Result Rows EditFault
after position rows edits made =
    elim made [ Ok changed ↦ all_edited (position + 1) changed edits | Err kind ↦ Err (record { position = position; kind = kind }) ]

pub first_edit : (position : ℕ) (rows : Rows) (edit : Edit) (edits : List Edit)
    → all_edited position rows (edit ∷ edits) ≡ after position rows edits (edited rows edit)
unfolding all_edited
first_edit position rows edit edits = refl

-- a fault is at a place of the edits
pub fault_within : (position : ℕ) (rows : Rows) (edits : List Edit) (fault : EditFault) → all_edited position rows edits ≡ Err fault
    → (position ≤ fault.position) × (fault.position < position + length edits)
fault_within position rows [] fault why = absurd (Ok_not_Err (sym (all_edited-nil position rows) ∙ why))
fault_within position rows (edit ∷ edits) fault why =
    by (edited rows edit) refl (λ changed later. fault_within (position + 1) changed edits fault later) (sym (first_edit position rows edit edits) ∙ why)
  where
    by : (r : Result Rows EditKind) → edited rows edit ≡ r
        → ((changed : Rows) → all_edited (position + 1) changed edits ≡ Err fault
        → (position + 1 ≤ fault.position) × (fault.position < position + 1 + length edits))
        → after position rows edits (edited rows edit) ≡ Err fault
        → (position ≤ fault.position) × (fault.position < position + length (edit ∷ edits))
    by (Ok changed) e later f = let w = later changed (sym (ap (after position rows edits) e) ∙ f) in (omega (arith, w.0), omega (arith, w.1))
    by (Err kind) e later f =
        let same : record { position = position; kind = kind } ≡ fault = let g = sym (ap (after position rows edits) e) ∙ f in Err_same g in
        let at : position ≡ fault.position = ap (λ (x : EditFault). x.position) same in
        (omega arith, omega arith)

-- a refused batch names one of its edits, or a place past none
pub refused_within : (rows : Rows) (edits : List Edit) (fault : EditFault) → RefusesBatch rows edits fault → fault.position ≤ length edits
refused_within rows edits fault stated =
    ⊎_elim
    (λ (m : fault ≡ memory_fault). omega (arith, ap (λ (x : EditFault). x.position) m))
    (λ (why : batch_edited rows edits ≡ Err fault).
    ⊎_elim
    (λ (long : batch_limit < length edits). omega (arith, ap (λ (x : EditFault). x.position) (Err_same (sym (too_long rows edits long) ∙ why))))
    (λ (short : length edits ≤ batch_limit). let w = fault_within 1 rows edits fault (sym (short_enough rows edits short) ∙ why) in omega (arith, w.1))
    (cases_lt batch_limit (length edits)))
    stated

-- ---- the fault

cases_memory : (kind : EditKind) → (kind ≡ Memory) ⊎ (kind ≡ Memory → ⊥)
cases_memory Memory = inl refl
cases_memory VertexExists = inr (λ (e : VertexExists ≡ Memory). cc)
cases_memory NoVertex = inr (λ (e : NoVertex ≡ Memory). cc)
cases_memory EdgeExists = inr (λ (e : EdgeExists ≡ Memory). cc)
cases_memory NoEdge = inr (λ (e : NoEdge ≡ Memory). cc)
cases_memory BatchTooLong = inr (λ (e : BatchTooLong ≡ Memory). cc)
cases_memory Full = inr (λ (e : Full ≡ Memory). cc)

-- a refused edit is the fault of the batch, unless a growth was refused
pub refused_at : (rows : Rows) (edits : List Edit) (position : ℕ) (kind : EditKind) (fault : EditFault)
    → (kind ≡ Memory → fault ≡ memory_fault) → ((kind ≡ Memory → ⊥) → fault ≡ record { position = position; kind = kind })
    → (kind ≡ Memory) ⊎ (batch_edited rows edits ≡ Err (record { position = position; kind = kind })) → RefusesBatch rows edits fault
refused_at rows edits position kind fault memory edit stated =
    ⊎_elim
    (λ (m : kind ≡ Memory). inl (memory m))
    (λ (other : kind ≡ Memory → ⊥).
    ⊎_elim
    (λ (m : kind ≡ Memory). inl (memory m))
    (λ (why : batch_edited rows edits ≡ Err (record { position = position; kind = kind })). inr (why ∙ ap (λ f. Err f) (sym (edit other))))
    stated)
    (cases_memory kind)
