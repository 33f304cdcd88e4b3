-- One machine follows another through any list of calls, where each call keeps an invariant between their states and is answered alike.
-- Nothing here knows what a call is. Assumes nothing.
use mathlib.Core.Path.{◌≡◌, refl}
use mathlib.Core.List.{List, [], ◌∷◌, ◌++◌, map}
use Rattle.calls.specs.Simulation.{answers, after, Throughout}

module _ {S P C D A : Type 0} (step : C → S → A × S) (plain : D → P → A × P) (question : C → D) (Ok : S → C → Type 0) (Inv : S → P → Type 0)
    (follows : (c : C) (s : S) (p : P) → Inv s p → Ok s c → ((step c s).0 ≡ (plain (question c) p).0) × Inv (step c s).1 (plain (question c) p).1)
  where
    pub simulate : (cs : List C) (s : S) (p : P) → Inv s p → Throughout step Ok cs s
        → (answers step cs s ≡ answers plain (map question cs) p) × Inv (after step cs s) (after plain (map question cs) p)
    unfolding answers after Throughout
    simulate [] s p i t = (refl, i)
    simulate (c ∷ cs) s p i t =
        let f : ((step c s).0 ≡ (plain (question c) p).0) × Inv (step c s).1 (plain (question c) p).1 = follows c s p i t.0 in
        let r : (answers step cs (step c s).1 ≡ answers plain (map question cs) (plain (question c) p).1)
        × Inv (after step cs (step c s).1) (after plain (map question cs) (plain (question c) p).1)
        = simulate cs (step c s).1 (plain (question c) p).1 f.1 t.1 in
        ((λ k. f.0 k ∷ r.0 k), r.1)

-- A list split at a call: the state after that call, and the calls up to it
module _ {S C A : Type 0} (step : C → S → A × S) (Ok : S → C → Type 0) where
  pub after_last : (cs : List C) (c : C) (s : S) → after step (cs ++ (c ∷ [])) s ≡ (step c (after step cs s)).1
  unfolding after
  after_last [] c s = refl
  after_last (d ∷ cs) c s = after_last cs c (step d s).1

  pub throughout_front : (cs ds : List C) (s : S) → Throughout step Ok (cs ++ ds) s → Throughout step Ok cs s
  unfolding Throughout
  throughout_front [] ds s t = tt
  throughout_front (c ∷ cs) ds s t = (t.0, throughout_front cs ds (step c s).1 t.1)

  pub throughout_next : (cs : List C) (c : C) (ds : List C) (s : S) → Throughout step Ok (cs ++ (c ∷ ds)) s → Throughout step Ok (cs ++ (c ∷ [])) s
  unfolding Throughout
  throughout_next [] c ds s t = (t.0, tt)
  throughout_next (d ∷ cs) c ds s t = (t.0, throughout_next cs c ds (step d s).1 t.1)
