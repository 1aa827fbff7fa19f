-- A run that marches every cell in rising order, where each march is accepted by computation. Assumes nothing.
use Rattle.std.proofs.Common.{◌≡◌, ℕ, zero, suc, ◌+◌, ◌<◌, ◌≤◌, Bool, true, false, T, eqb, get_or, replicate, Some, None, Ok, Option, refl, arith, eqb→eq}
use Rattle.refusal.specs.declared.refusals.Refusal.{Refusal}
use Rattle.grid.specs.Cells.{cell_count, cell_base}
use Rattle.mesh.specs.Triangles.{no_triangle}
use Rattle.topology.proofs.Finite.{◌and◌, all, all_at, left, right}
use Rattle.surface.specs.declared.sizes.Counts.{Counts}
use Rattle.surface.specs.Marches.{State, Field, march_refusal, marched, begun}
use Rattle.surface.specs.Needs.{need}
use Rattle.surface.specs.Runs.{Run, begin, march}
use Rattle.surface.specs.Skins.{no_vertex, vertex_count, AllMarched}
use Rattle.examples.specs.Worked.{accepts}

-- a surface with a mark for each cell, 32 entries, and so many records
abbrev pub fresh : Field → ℕ → ℕ → State
fresh f v t = begun f.sides (cell_count f.sides) 32 (replicate v no_vertex) (replicate t no_triangle)

-- it, once the cells below a number are marched
unfoldable pub after : Field → ℕ → ℕ → ℕ → State
after f v t zero = fresh f v t
after f v t (suc c) = marched f (after f v t c) c

abbrev pub its_need : Field → State → ℕ → Counts
its_need f s c = need f.inside s.tables.numbered.entries (cell_base s.sides c)

unfoldable pub step_taken : Field → ℕ → ℕ → ℕ → Bool
step_taken f v t c =
    accepts (march_refusal f (after f v t c) c)
    and eqb (vertex_count (after f v t (suc c))) (vertex_count (after f v t c) + (its_need f (after f v t c) c).vertices)

-- every march is accepted, and at the end every cell is marked
unfoldable pub all_taken : Field → ℕ → ℕ → Bool
all_taken f v t = all (cell_count f.sides) (step_taken f v t) and all (cell_count f.sides) (λ c. get_or (after f v t (cell_count f.sides)).marks c false)

accepted : (o : Option Refusal) → T (accepts o) → o ≡ None
accepted None h = refl
accepted (Some e) h = absurd h

pub is_true : (b : Bool) → T b → b ≡ true
is_true true h = refl
is_true false h = absurd h

module _ (f : Field) (v t : ℕ) (taken : T (all_taken f v t)) where
  rising : (c : ℕ) → c ≤ cell_count f.sides → Run f (after f v t c)
  unfolding after ◌and◌ all_taken march_refusal step_taken
  rising zero h = begin (cell_count f.sides) 32 (replicate v no_vertex) (replicate t no_triangle)
  rising (suc c) h =
      let q = at c (omega arith) in
      march (rising c (omega arith)) c (Ok (its_need f (after f v t c) c)) (accepted _ (left _ _ q), refl, refl, eqb→eq _ _ (right _ _ q))
    where
      at : (c : ℕ) → c < cell_count f.sides → T (step_taken f v t c)
      at c h = all_at (cell_count f.sides) (step_taken f v t) (left _ _ taken) c h

  pub run_through : (s : State) × Run f s × AllMarched f s
  unfolding all_taken
  run_through = (
    after f v t (cell_count f.sides),
    rising (cell_count f.sides) (omega arith),
    λ c h. record { cell = h; mark = is_true _ (all_at (cell_count f.sides) (λ c. get_or (after f v t (cell_count f.sides)).marks c false) (right _ _ taken) c h) },
  )
