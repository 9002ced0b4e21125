-- Steps and ends of a loop that combines what message lists come to.
use Rattle.std.proofs.Common.{◌≡◌, IfSome, IsSome, true, false, List, Option, None, Some, [], ◌∷◌, ◌++◌, refl, ap, sym, ◌∙◌, true≢false, Bool, not, ◌||◌}
use Rattle.std.proofs.Common.{is_some}
use Rattle.std.specs.List.{fold}
use Rattle.std.specs.Option.{option_to_list}
use Rattle.std.proofs.lemmas.List.{append-nil}
use Rattle.std.proofs.lemmas.List.Sums.{fold-append}
use Rattle.std.proofs.Math.Bool.{or-false}
use Rattle.pg_model.specs.Job.{Combining}
use Rattle.pg_model.specs.Superstep.{combined, is_empty}
use Rattle.pg_inbox_messages.proofs.Grouping.{some_not_empty}

pub none_or_any : (any empty : Bool) {b : Bool} → any ≡ not empty → any ≡ b → empty ≡ not b
none_or_any any true is h = ap not (sym is ∙ h)
none_or_any any false is h = ap not (sym is ∙ h)

module _ {M : Type 0} where
  pub combined_all : (combining : Option (Combining M)) (messages : List M) (so_far : M) → IsSome combining → is_empty messages ≡ false
      → IfSome combining (λ c. so_far ≡ fold c.combine c.initial messages) → so_far ∷ [] ≡ combined combining messages
  combined_all None messages so_far combines some is = absurd (true≢false (sym combines))
  combined_all (Some c) [] so_far combines some is = absurd (true≢false some)
  combined_all (Some c) (m ∷ ms) so_far combines some is = ap (λ s. s ∷ []) is

  pub combined_none : (combining : Option (Combining M)) (messages : List M) → IsSome combining → is_empty messages ≡ true
      → [] ≡ combined combining messages
  combined_none None messages combines none = absurd (true≢false (sym combines))
  combined_none (Some c) [] combines none = refl
  combined_none (Some c) (m ∷ ms) combines none = absurd (true≢false (sym none ∙ some_not_empty m ms))

  -- some more messages are combined with what those before them come to
  pub combined_more : (combining : Option (Combining M)) (taken more : List M) (so_far after : M) {now : List M} → taken ++ more ≡ now
      → IfSome combining (λ c. so_far ≡ fold c.combine c.initial taken) → IfSome combining (λ c. after ≡ fold c.combine so_far more)
      → IfSome combining (λ c. after ≡ fold c.combine c.initial now)
  combined_more None taken more so_far after is before here = tt
  combined_more (Some c) taken more so_far after is before here =
      here ∙ ap (λ s. fold c.combine s more) before ∙ sym (fold-append c.combine c.initial taken more) ∙ ap (fold c.combine c.initial) is

  pub any_more : (taken : List M) (more : Option M) (before after : Bool) → before ≡ not (is_empty taken) → after ≡ (before || is_some more)
      → after ≡ not (is_empty (taken ++ option_to_list more))
  any_more taken None before after was is = is ∙ or-false before ∙ was ∙ ap (λ l. not (is_empty l)) (sym (append-nil taken))
  any_more [] (Some m) before after was is = is ∙ ap (λ b. b || true) was ∙ ap not (sym (some_not_empty m []))
  any_more (t ∷ taken) (Some m) before after was is =
      is ∙ ap (λ b. b || true) (was ∙ ap not (some_not_empty t taken)) ∙ ap not (sym (some_not_empty t (taken ++ m ∷ [])))
