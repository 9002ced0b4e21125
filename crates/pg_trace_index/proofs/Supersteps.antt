-- In which supersteps an id ran, as supersteps come, go and change, and where its last record stands.
use Rattle.std.proofs.Common.{◌≡◌, ℕ, zero, suc, ◌+◌, ◌<◌, ◌≤◌, ◌-◌, ◌==◌, Bool, true, false, cond, List, [], ◌∷◌, ◌++◌, length, get_or}
use Rattle.std.proofs.Common.{set, take, Option, None, Some, is_some, unwrap_or, refl, sym, ap, ◌∙◌, arith, ltb, true≢false}
use Rattle.std.specs.List.{filter}
use Rattle.std.specs.List.Sorted.{IsNonDecreasingBy}
use Rattle.std.specs.Option.{option_and_then, option_or}
use Rattle.std.proofs.lemmas.Bool.Decides.{nat_tests}
use Rattle.std.proofs.lemmas.List.{get_or-take, length-take}
use Rattle.pg_map.specs.Entries.{value_at}
use Rattle.pg_trace_index.specs.Occurrences.{last_of, ran_from, steps_above, steps_below, steps_noted, with_ran}
use Rattle.pg_trace_index.specs.Records.{last_record}

pub lower : (a b : ℕ) → a < b → ltb a b ≡ true
lower a b h = grind (arith, nat_tests)

pub not_lower : (a b : ℕ) → b ≤ a → ltb a b ≡ false
not_lower a b h = grind (arith, nat_tests)

-- a list that begins with b or doesn't
abbrev begun_by : Bool → ℕ → List ℕ → List ℕ
begun_by t b steps = cond t (b ∷ steps) steps

-- what is noted of an id agrees with whether it ran before and runs now
abbrev pub Agrees : {Y : Type 0} → Option (Option Y) → Bool → Bool → Type 0
Agrees None old new = new ≡ old
Agrees (Some given) old new = new ≡ is_some given

-- ---- one superstep noted

-- below the superstep that is noted nothing changes
pub ran_under : (b s : ℕ) (runs t : Bool) (steps : List ℕ) → b < s → begun_by t b (with_ran s runs steps) ≡ with_ran s runs (begun_by t b steps)
ran_under b s runs false steps h = refl
ran_under b s runs true steps h =
    sym (ap (λ c. begun_by c b (steps_below s steps) ++ cond runs (s ∷ []) [] ++ begun_by (ltb s b) b (steps_above s steps)) (lower b s h)
    ∙ ap (λ c. (b ∷ steps_below s steps) ++ cond runs (s ∷ []) [] ++ begun_by c b (steps_above s steps)) (not_lower s b (omega arith)))

under : {Y : Type 0} (b s : ℕ) (o : Option (Option Y)) (t : Bool) (steps : List ℕ) → b < s
    → begun_by t b (steps_noted s o steps) ≡ steps_noted s o (begun_by t b steps)
under b s None t steps h = refl
under b s (Some given) t steps h = ran_under b s (is_some given) t steps h

module _ {X : Type 0} (id : ℕ) where
  below_none : (b s : ℕ) (rs : List (List (ℕ × X))) → s ≤ b → filter (λ t. ltb t s) (ran_from id b rs) ≡ []
  below_none b s [] h = refl
  below_none b s (r ∷ rs) h = by (is_some (value_at id r)) (below_none (b + 1) s rs (omega arith))
    where
      by : (t : Bool) → filter (λ t. ltb t s) (ran_from id (b + 1) rs) ≡ [] → filter (λ t. ltb t s) (begun_by t b (ran_from id (b + 1) rs)) ≡ []
      by true later = ap (λ c. begun_by c b (steps_below s (ran_from id (b + 1) rs))) (not_lower b s h) ∙ later
      by false later = later

  above_all : (b s : ℕ) (rs : List (List (ℕ × X))) → s < b → filter (λ t. ltb s t) (ran_from id b rs) ≡ ran_from id b rs
  above_all b s [] h = refl
  above_all b s (r ∷ rs) h = by (is_some (value_at id r)) (above_all (b + 1) s rs (omega arith))
    where
      by : (t : Bool) → filter (λ t. ltb s t) (ran_from id (b + 1) rs) ≡ ran_from id (b + 1) rs
          → filter (λ t. ltb s t) (begun_by t b (ran_from id (b + 1) rs)) ≡ begun_by t b (ran_from id (b + 1) rs)
      by true later = ap (λ c. begun_by c b (steps_above s (ran_from id (b + 1) rs))) (lower s b h) ∙ ap (λ l. b ∷ l) later
      by false later = later

  -- noted of the first superstep
  here : (b : ℕ) (runs t : Bool) (rs : List (List (ℕ × X))) → with_ran b runs (begun_by t b (ran_from id (b + 1) rs)) ≡ begun_by runs b (ran_from id (b + 1) rs)
  here b runs t rs = by t ∙ put runs
    where
      low : filter (λ t. ltb t b) (ran_from id (b + 1) rs) ≡ []
      low = below_none (b + 1) b rs (omega arith)

      high : filter (λ t. ltb b t) (ran_from id (b + 1) rs) ≡ ran_from id (b + 1) rs
      high = above_all (b + 1) b rs (omega arith)

      parts : with_ran b runs (ran_from id (b + 1) rs) ≡ [] ++ cond runs (b ∷ []) [] ++ ran_from id (b + 1) rs
      parts = ap (λ l. l ++ cond runs (b ∷ []) [] ++ filter (λ t. ltb b t) (ran_from id (b + 1) rs)) low ∙ ap (λ l. [] ++ cond runs (b ∷ []) [] ++ l) high

      itself : ltb b b ≡ false
      itself = not_lower b b (omega arith)

      by : (t : Bool) → with_ran b runs (begun_by t b (ran_from id (b + 1) rs)) ≡ [] ++ cond runs (b ∷ []) [] ++ ran_from id (b + 1) rs
      by false = parts
      by true =
          ap (λ c. begun_by c b (steps_below b (ran_from id (b + 1) rs)) ++ cond runs (b ∷ []) [] ++ begun_by c b (steps_above b (ran_from id (b + 1) rs)))
          itself
          ∙ parts

      put : (runs : Bool) → [] ++ cond runs (b ∷ []) [] ++ ran_from id (b + 1) rs ≡ begun_by runs b (ran_from id (b + 1) rs)
      put true = refl
      put false = refl

module _ {X Y : Type 0} (id : ℕ) where
  first_noted : (b : ℕ) (o : Option (Option Y)) (old new : Bool) (rs : List (List (ℕ × X))) → Agrees o old new
      → begun_by new b (ran_from id (b + 1) rs) ≡ steps_noted b o (begun_by old b (ran_from id (b + 1) rs))
  first_noted b None old new rs fits = ap (λ t. begun_by t b (ran_from id (b + 1) rs)) fits
  first_noted b (Some given) old new rs fits = ap (λ t. begun_by t b (ran_from id (b + 1) rs)) fits ∙ sym (here id b (is_some given) old rs)

  -- a superstep whose records change
  pub ran-set : (b k : ℕ) (rs : List (List (ℕ × X))) (xs : List (ℕ × X)) (o : Option (Option Y)) → k < length rs
      → Agrees o (is_some (value_at id (get_or rs k []))) (is_some (value_at id xs)) → ran_from id b (set rs k xs) ≡ steps_noted (b + k) o (ran_from id b rs)
  ran-set b k [] xs o h fits = absurd (omega arith)
  ran-set b zero (r ∷ rs) xs o h fits =
      let at : b ≡ b + 0 = omega arith in
      first_noted b o (is_some (value_at id r)) (is_some (value_at id xs)) rs fits ∙ ap (λ s. steps_noted s o (ran_from id b (r ∷ rs))) at
  ran-set b (suc k) (r ∷ rs) xs o h fits =
      let at : (b + 1) + k ≡ b + suc k = omega arith in
      let t = is_some (value_at id r) in
      ap (begun_by t b) (ran-set (b + 1) k rs xs o (omega arith) fits ∙ ap (λ s. steps_noted s o (ran_from id (b + 1) rs)) at)
      ∙ under b (b + suc k) o t (ran_from id (b + 1) rs) (omega arith)

  -- a superstep more
  pub ran-push : (b : ℕ) (rs : List (List (ℕ × X))) (xs : List (ℕ × X)) (o : Option (Option Y)) → Agrees o false (is_some (value_at id xs))
      → ran_from id b (rs ++ xs ∷ []) ≡ steps_noted (b + length rs) o (ran_from id b rs)
  ran-push b [] xs o fits =
      let at : b ≡ b + 0 = omega arith in
      first_noted b o false (is_some (value_at id xs)) [] fits ∙ ap (λ s. steps_noted s o []) at
  ran-push b (r ∷ rs) xs o fits =
      let at : (b + 1) + length rs ≡ b + length (r ∷ rs) = omega arith in
      let t = is_some (value_at id r) in
      ap (begun_by t b) (ran-push (b + 1) rs xs o fits ∙ ap (λ s. steps_noted s o (ran_from id (b + 1) rs)) at)
      ∙ under b (b + length (r ∷ rs)) o t (ran_from id (b + 1) rs) (omega arith)

  -- the last superstep less
  pub ran-less : (b n : ℕ) (rs : List (List (ℕ × X))) (o : Option (Option Y)) → n < length rs
      → Agrees o (is_some (value_at id (get_or rs n []))) false → ran_from id b (take n rs) ≡ steps_noted (b + n) o (ran_from id b (take (n + 1) rs))
  ran-less b n [] o h fits = absurd (omega arith)
  ran-less b zero (r ∷ rs) o h fits =
      let at : b ≡ b + 0 = omega arith in
      first_noted b o (is_some (value_at id r)) false [] fits ∙ ap (λ s. steps_noted s o (begun_by (is_some (value_at id r)) b [])) at
  ran-less b (suc n) (r ∷ rs) o h fits =
      let at : (b + 1) + n ≡ b + suc n = omega arith in
      let t = is_some (value_at id r) in
      let all : suc n + 1 ≡ suc (n + 1) = omega arith in
      ap (begun_by t b) (ran-less (b + 1) n rs o (omega arith) fits ∙ ap (λ s. steps_noted s o (ran_from id (b + 1) (take (n + 1) rs))) at)
      ∙ under b (b + suc n) o t (ran_from id (b + 1) (take (n + 1) rs)) (omega arith)
      ∙ sym (ap (λ m. steps_noted (b + suc n) o (ran_from id b (take m (r ∷ rs)))) all)

-- ---- the last record

module _ {X : Type 0} (id : ℕ) where
  ran-take : (b n : ℕ) (rs : List (List (ℕ × X))) → ran_from id b (take n rs) ≡ filter (λ t. ltb t (b + n)) (ran_from id b rs)
  ran-take b zero rs = sym (below_none id b (b + 0) rs (omega arith))
  ran-take b (suc n) [] = refl
  ran-take b (suc n) (r ∷ rs) = by (is_some (value_at id r)) (ran-take (b + 1) n rs)
    where
      at : (b + 1) + n ≡ b + suc n
      at = omega arith

      by : (t : Bool) → ran_from id (b + 1) (take n rs) ≡ filter (λ t. ltb t ((b + 1) + n)) (ran_from id (b + 1) rs)
          → begun_by t b (ran_from id (b + 1) (take n rs)) ≡ filter (λ t. ltb t (b + suc n)) (begun_by t b (ran_from id (b + 1) rs))
      by false later = later ∙ ap (λ s. filter (λ t. ltb t s) (ran_from id (b + 1) rs)) at
      by true later =
          ap (λ l. b ∷ l) (later ∙ ap (λ s. filter (λ t. ltb t s) (ran_from id (b + 1) rs)) at)
          ∙ sym (ap (λ c. begun_by c b (steps_below (b + suc n) (ran_from id (b + 1) rs))) (lower b (b + suc n) (omega arith)))

  joined : (steps : List ℕ) (last now : Option X) (f : ℕ → Option X) (b : ℕ) → last ≡ option_and_then f (last_of steps)
      → is_some last ≡ is_some (last_of steps) → f b ≡ now
      → (option_or last now ≡ option_and_then f (last_of (begun_by (is_some now) b steps)))
      × (is_some (option_or last now) ≡ is_some (last_of (begun_by (is_some now) b steps)))
  joined steps None None f b is some at = (is, some)
  joined steps None (Some v) f b is some at = (by (last_of steps) some, refl)
    where
      by : (l : Option ℕ) → false ≡ is_some l → Some v ≡ f (unwrap_or l b)
      by None e = sym at
      by (Some t) e = absurd (true≢false (sym e))
  joined steps (Some x) None f b is some at = (is, some)
  joined steps (Some x) (Some v) f b is some at = (by (last_of steps) is some, refl)
    where
      by : (l : Option ℕ) → Some x ≡ option_and_then f l → true ≡ is_some l → Some x ≡ f (unwrap_or l b)
      by None e s = absurd (true≢false s)
      by (Some t) e s = e

  last_ran : (b : ℕ) (at : ℕ → List (ℕ × X)) (rs : List (List (ℕ × X))) → ((k : ℕ) → k < length rs → at (b + k) ≡ get_or rs k [])
      → (last_record id rs ≡ option_and_then (λ t. value_at id (at t)) (last_of (ran_from id b rs)))
      × (is_some (last_record id rs) ≡ is_some (last_of (ran_from id b rs)))
  last_ran b at [] h = (refl, refl)
  last_ran b at (r ∷ rs) h =
      let later = last_ran (b + 1) at rs (λ k w. let s : (b + 1) + k ≡ b + suc k = omega arith in ap at s ∙ h (suc k) (omega arith)) in
      let first : b ≡ b + 0 = omega arith in
      joined (ran_from id (b + 1) rs) (last_record id rs) (value_at id r) (λ t. value_at id (at t)) b later.0 later.1
      (ap (value_at id) (ap at first ∙ h 0 (omega arith)))

  -- the last record before a superstep is that of the last superstep before it in which the id ran
  pub last_before : (rs : List (List (ℕ × X))) (s : ℕ)
      → last_record id (take s rs) ≡ option_and_then (λ t. value_at id (get_or rs t [])) (last_of (filter (λ t. ltb t s) (ran_from id 0 rs)))
  last_before rs s =
      let zero_first : 0 + s ≡ s = omega arith in
      (last_ran 0 (λ t. get_or rs t []) (take s rs)
      (λ k w. let at : 0 + k ≡ k = omega arith in ap (λ t. get_or rs t []) at ∙ sym (get_or-take s rs k [] (let l = length-take s rs in omega arith)))).0
      ∙ ap (λ l. option_and_then (λ t. value_at id (get_or rs t [])) (last_of l))
      (ran-take 0 s rs ∙ ap (λ n. filter (λ t. ltb t n) (ran_from id 0 rs)) zero_first)

-- ---- the supersteps of an id rise

module _ {X : Type 0} (id : ℕ) where
  above : (b : ℕ) (rs : List (List (ℕ × X))) (k d : ℕ) → k < length (ran_from id b rs) → b ≤ get_or (ran_from id b rs) k d
  above b [] k d h = absurd (omega arith)
  above b (r ∷ rs) k d h = by (λ k w. above (b + 1) rs k d w) (is_some (value_at id r)) k h
    where
      by : ((k : ℕ) → k < length (ran_from id (b + 1) rs) → b + 1 ≤ get_or (ran_from id (b + 1) rs) k d) → (t : Bool) (k : ℕ)
          → k < length (begun_by t b (ran_from id (b + 1) rs)) → b ≤ get_or (begun_by t b (ran_from id (b + 1) rs)) k d
      by higher true zero h = omega arith
      by higher true (suc k) h = let later = higher k (omega arith) in omega arith
      by higher false k h = let later = higher k h in omega arith

  pub ran_rises : (b : ℕ) (rs : List (List (ℕ × X))) → IsNonDecreasingBy (λ t. t) (ran_from id b rs)
  ran_rises b [] i j d h w = absurd (omega arith)
  ran_rises b (r ∷ rs) i j d h w = by (λ i j h w. ran_rises (b + 1) rs i j d h w) (is_some (value_at id r)) i j h w
    where
      by : ((i j : ℕ) → i ≤ j → j < length (ran_from id (b + 1) rs) → get_or (ran_from id (b + 1) rs) i d ≤ get_or (ran_from id (b + 1) rs) j d)
          → (t : Bool) (i j : ℕ) → i ≤ j → j < length (begun_by t b (ran_from id (b + 1) rs))
          → get_or (begun_by t b (ran_from id (b + 1) rs)) i d ≤ get_or (begun_by t b (ran_from id (b + 1) rs)) j d
      by rises true zero zero h w = omega arith
      by rises true zero (suc j) h w = let later = above (b + 1) rs j d (omega arith) in omega arith
      by rises true (suc i) zero h w = absurd (omega arith)
      by rises true (suc i) (suc j) h w = rises i j (omega arith) (omega arith)
      by rises false i j h w = rises i j h w

-- ---- the last of them

pub last_of_all : (xs : List ℕ) (m : ℕ) → suc m ≡ length xs → Some (get_or xs m 0) ≡ last_of xs
last_of_all [] m last = absurd (omega arith)
last_of_all (x ∷ []) zero last = refl
last_of_all (x ∷ []) (suc m) last = absurd (omega arith)
last_of_all (x ∷ y ∷ ys) zero last = absurd (omega arith)
last_of_all (x ∷ y ∷ ys) (suc m) last = ap (λ o. Some (unwrap_or o x)) (last_of_all (y ∷ ys) m (omega arith))

pub no_last : (xs : List ℕ) → None ≡ last_of xs → [] ≡ xs
no_last [] none = refl
no_last (x ∷ xs) none = absurd (true≢false (sym (ap is_some none)))

pub one_at_least : (n : ℕ) → false ≡ (n == 0) → suc (n - 1) ≡ n
one_at_least n h = grind (arith, nat_tests)
