-- A refusal at the lowest place, where the test can hold at one place only, or at two neighbours. Assumes nothing.
use Rattle.std.specs.Prelude.{Ok, Err}
use Prim.Native.Nat.{ℕ, ◌+◌, ◌≤◌, ◌<◌}
use mathlib.Core.Path.{◌≡◌, refl, ◌∙◌, ap}
use mathlib.Core.Bool.{Bool, true, false, ◌&&◌}
use mathlib.Core.List.{List, ◌∷◌}
use lib.Dec.{ltb}
use native.Mathlib.Decide.{ℕ_discrete}
use native.Mathlib.Omega.{arith}
use borrow.Author.Tests.{lt-ltb, le-ltb, ltb-true, ltb-false}
use Rattle.chart_fields.proofs.Search.{first_is, first_none}
use Rattle.chart_opening.specs.Conditions.{refuse_if, refuse_at, first_of}
use Rattle.chart_opening.specs.declared.Refusal.{Refusal}
use Rattle.chart_opening.specs.Verdict.{Verdict}

module _ (r : ℕ → Refusal) (bad : ℕ → Bool) (n : ℕ) where
  at_is : (p : ℕ) → p < n → ((j : ℕ) → j < p → bad j ≡ false) → bad p ≡ true → refuse_at r bad n ≡ Err (r p)
  at_is p h f e = simp (first_is bad n p h f e, lt-ltb p n h)

  pub at_none : ((j : ℕ) → j < n → bad j ≡ false) → refuse_at r bad n ≡ Ok tt
  at_none f = simp (first_none bad n f, le-ltb n n (omega arith))

  module _ (p : ℕ) (h : p < n) where
    pub one : ((j : ℕ) → j < n → (j ≡ p → ⊥) → bad j ≡ false) → refuse_at r bad n ≡ refuse_if (bad p) (r p)
    one f = go (bad p) refl
      where
        each : bad p ≡ false → (j : ℕ) → j < n → Dec (j ≡ p) → bad j ≡ false
        each e j l (yes q) = ap bad q ∙ e
        each e j l (no q) = f j l q

        go : (b : Bool) → bad p ≡ b → refuse_at r bad n ≡ refuse_if b (r p)
        go true e = at_is p h (λ j l. f j (omega arith) (λ q. omega arith)) e
        go false e = at_none (λ j l. each e j l (ℕ_discrete j p))

    pub two :
        ((j : ℕ) → j < n → (j ≡ p → ⊥) → (j ≡ p + 1 → ⊥) → bad j ≡ false)
        → (vs : List Verdict) → first_of (refuse_at r bad n ∷ vs) ≡ first_of (refuse_if (bad p) (r p) ∷ refuse_if (ltb (p + 1) n && bad (p + 1)) (r (p + 1)) ∷ vs)
    unfolding first_of
    two f vs = go (bad p) refl (ltb (p + 1) n) refl (bad (p + 1)) refl
      where
        first : Verdict → Verdict
        first v = first_of (v ∷ vs)

        each : bad p ≡ false → (p + 1 < n → bad (p + 1) ≡ false) → (j : ℕ) → j < n → Dec (j ≡ p) → Dec (j ≡ p + 1) → bad j ≡ false
        each e g j l (yes q) d = ap bad q ∙ e
        each e g j l (no q) (yes q') = ap bad q' ∙ g (omega arith)
        each e g j l (no q) (no q') = f j l q q'

        below : bad p ≡ false → (j : ℕ) → j < p + 1 → p + 1 < n → Dec (j ≡ p) → bad j ≡ false
        below e j l m (yes q) = ap bad q ∙ e
        below e j l m (no q) = f j (omega arith) q (λ q'. omega arith)

        go : (b : Bool) → bad p ≡ b → (i : Bool) → ltb (p + 1) n ≡ i → (b' : Bool) → bad (p + 1) ≡ b'
            → first_of (refuse_at r bad n ∷ vs) ≡ first_of (refuse_if b (r p) ∷ refuse_if (i && b') (r (p + 1)) ∷ vs)
        go true e i t b' e' = ap first (at_is p h (λ j l. f j (omega arith) (λ q. omega arith) (λ q. omega arith)) e)
        go false e true t true e' =
            let m : p + 1 < n = ltb-true (p + 1) n t in
            ap first (at_is (p + 1) m (λ j l. below e j l m (ℕ_discrete j p)) e')
        go false e true t false e' = ap first (at_none (λ j l. each e (λ _. e') j l (ℕ_discrete j p) (ℕ_discrete j (p + 1))))
        go false e false t b' e' =
            let m : n ≤ p + 1 = ltb-false (p + 1) n t in
            ap first (at_none (λ j l. each e (λ g. absurd (omega arith)) j l (ℕ_discrete j p) (ℕ_discrete j (p + 1))))
