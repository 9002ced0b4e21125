-- Messages beside their targets, and the senders at the same places.
use Rattle.std.proofs.Common.{◌≡◌, ◌<◌, ℕ, zero, suc, List, [], ◌∷◌, ◌++◌, length, map, get_or, refl, ap, arith}
use Rattle.pg_inbox_bundles.specs.Outbox.{sends_in}

module _ {M : Type 0} where
  pub length-sends_in : (senders : List ℕ) (sent : List (ℕ × M)) → length senders ≡ length sent → length (sends_in senders sent) ≡ length sent
  length-sends_in [] [] long = refl
  length-sends_in [] (m ∷ sent) long = absurd (omega (arith, long))
  length-sends_in (s ∷ senders) [] long = absurd (omega (arith, long))
  length-sends_in (s ∷ senders) (m ∷ sent) long = ap suc (length-sends_in senders sent (omega (arith, long)))

  -- the one at a place
  pub send_at : (senders : List ℕ) (sent : List (ℕ × M)) → length senders ≡ length sent → (i : ℕ) (s : ℕ) (m : ℕ × M) (d : ℕ × ℕ × M) → i < length sent
      → (get_or senders i s, (get_or sent i m).0, (get_or sent i m).1) ≡ get_or (sends_in senders sent) i d
  send_at [] [] long i s m d within = absurd (omega (arith, within))
  send_at [] (n ∷ sent) long i s m d within = absurd (omega (arith, long))
  send_at (t ∷ senders) [] long i s m d within = absurd (omega (arith, long))
  send_at (t ∷ senders) (n ∷ sent) long zero s m d within = refl
  send_at (t ∷ senders) (n ∷ sent) long (suc i) s m d within = send_at senders sent (omega (arith, long)) i s m d (omega (arith, within))

  pub targets_in : (senders : List ℕ) (sent : List (ℕ × M)) → length senders ≡ length sent → map (λ m. m.0) sent ≡ map (λ s. s.1) (sends_in senders sent)
  targets_in [] [] long = refl
  targets_in [] (m ∷ sent) long = absurd (omega (arith, long))
  targets_in (s ∷ senders) [] long = absurd (omega (arith, long))
  targets_in (s ∷ senders) (m ∷ sent) long = ap (λ l. m.0 ∷ l) (targets_in senders sent (omega (arith, long)))

  -- with one more
  pub sends_in-push : (senders : List ℕ) (sent : List (ℕ × M)) (s : ℕ) (m : ℕ × M) → length senders ≡ length sent
      → sends_in (senders ++ s ∷ []) (sent ++ m ∷ []) ≡ sends_in senders sent ++ (s, m.0, m.1) ∷ []
  sends_in-push [] [] s m long = refl
  sends_in-push [] (n ∷ sent) s m long = absurd (omega (arith, long))
  sends_in-push (t ∷ senders) [] s m long = absurd (omega (arith, long))
  sends_in-push (t ∷ senders) (n ∷ sent) s m long = ap (λ l. (t, n.0, n.1) ∷ l) (sends_in-push senders sent s m (omega (arith, long)))
