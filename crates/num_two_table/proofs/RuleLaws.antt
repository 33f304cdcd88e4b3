-- Laws of the rule of T: it leaves no choice, and the table of the roots obeys it. Assumes nothing.
use Rattle.std.specs.Prelude.{ℕ, zero, suc, ◌*◌, ◌^◌, ◌≤◌, ◌<◌, ◌≡◌, refl, List, [], ◌∷◌, ◌++◌, length}
use Rattle.std.proofs.Common.{le_antisymm, le_of_suc-le-suc, lt_of_le_of_lt, add-one, arith, sym, ap₂, ◌∙◌, subst}
use Rattle.num_roots.specs.Isqrt.{IsRoot, lt_of_square}
use Rattle.num_elementary.specs.Two.{two_root}
use Rattle.num_elementary.specs.Roots.{two_roots, roots_length}
use Rattle.num_elementary.specs.TwoLaws.{root_rule}
use Rattle.num_two_table.specs.Rule.{Largest, Follows, Table}

-- a root cut to a whole number
pub largest : {n q : ℕ} → IsRoot n q → Largest n q
largest {n} {q} h = (h.0, λ (u : ℕ) (g : u * u ≤ n). le_of_suc-le-suc (subst (λ (x : ℕ). u < x) (add-one q) (lt_of_square (lt_of_le_of_lt g h.1))))

pub largest_unique : {n t u : ℕ} → Largest n t → Largest n u → t ≡ u
largest_unique {n} {t} {u} a b = le_antisymm (b.1 t a.0) (a.1 u b.0)

-- the rule leaves no choice
follows_unique : (t : ℕ) (us vs : List ℕ) → length us ≡ length vs → Follows t us → Follows t vs → us ≡ vs
follows_unique t [] [] e a b = refl
follows_unique t [] (v ∷ vs) e a b = absurd (omega arith)
follows_unique t (u ∷ us) [] e a b = absurd (omega arith)
follows_unique t (u ∷ us) (v ∷ vs) e a b =
    let same : u ≡ v = largest_unique a.0 b.0 in
    ap₂ ◌∷◌ same (follows_unique u us vs (omega arith) a.1 (subst (λ (x : ℕ). Follows x vs) (sym same) b.1))

pub table_unique : (n : ℕ) (ts us : List ℕ) → Table n ts → Table n us → ts ≡ us
table_unique n ts us a b = follows_unique (2 ^ 63) ts us (a.entries ∙ sym b.entries) a.rule b.rule

-- one entry more
last_of : ℕ → List ℕ → ℕ
last_of t [] = t
last_of t (u ∷ us) = last_of u us

last_is : (t u : ℕ) (us : List ℕ) → last_of t (us ++ (u ∷ [])) ≡ u
unfolding last_of
last_is t u [] = refl
last_is t u (v ∷ us) = last_is v u us

follows_more : (t u : ℕ) (us : List ℕ) → Follows t us → Follows (last_of t us) (u ∷ []) → Follows t (us ++ (u ∷ []))
unfolding last_of
follows_more t u [] a l = l
follows_more t u (v ∷ us) a l = (a.0, follows_more v u us a.1 l)

roots_last : (n : ℕ) → last_of (2 ^ 63) (two_roots n) ≡ two_root n
unfolding last_of two_roots two_root
roots_last zero = refl
roots_last (suc n) = last_is (2 ^ 63) (two_root (suc n)) (two_roots n)

roots_follow : (n : ℕ) → Follows (2 ^ 63) (two_roots n)
unfolding two_roots
roots_follow zero = tt
roots_follow (suc n) =
    follows_more (2 ^ 63) (two_root (suc n)) (two_roots n) (roots_follow n)
    (subst (λ (t : ℕ). Follows t (two_root (suc n) ∷ [])) (sym (roots_last n)) (largest (root_rule n), tt))

-- T(1) to T(n) obey it, and are the only list that does
pub roots_table : (n : ℕ) → Table n (two_roots n)
roots_table n = record { entries = roots_length n; rule = roots_follow n }
