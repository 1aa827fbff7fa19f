-- The examples hold, by one computed test over the whole table: for meshes it tests the census, and the skin law does the rest.
use Rattle.std.proofs.Common.{◌≡◌, ℕ, zero, suc, Bool, false, T, eqb, List, [], ◌∷◌, sym, subst, lit<, eqb→eq}
use Rattle.std.specs.List.{AllByRecursion as All}
use Rattle.grid.specs.declared.geometry.GridEdge.{GridEdge}
use Rattle.grid.specs.Points.{Sides, crossed}
use Rattle.grid.specs.Cells.{mask, placed, tet_triangles, cell_triangles, cell_edges}
use Rattle.grid.specs.EdgeKeys.{vertex_on, with_vertex}
use Rattle.grid.specs.Shapes.{sides_refusal}
use Rattle.keymap.specs.Frees.{free}
use Rattle.keymap.specs.Probe.{seek, slot}
use Rattle.mesh.specs.declared.records.Coordinates.{Coordinates}
use Rattle.mesh.specs.Parts.{Groups}
use Rattle.mesh.specs.Verdicts.{Counted}
use Rattle.topology.specs.Census.{over_points, over_cells, full, count}
use Rattle.topology.proofs.Finite.{◌and◌, left, right}
use Rattle.topology.proofs.Members.{all_l}
use Rattle.topology.proofs.Tables.{table_open}
use Rattle.surface.specs.Marches.{State, Field, march_refusal, marched, begun}
use Rattle.surface.specs.Needs.{need}
use Rattle.surface.specs.Runs.{Run}
use Rattle.surface.specs.Skins.{mesh, vertex_count, tiles, AllMarched}
use Rattle.surface.specs.States.{number, named, added, added_all}
use Rattle.examples.specs.Worked.{Example, densities, ratios, taken, refused, no_room, adds, skinned, examples, accepts, refuses, densities_cross, ratios_cross, march_refused, march_adds, Block, block, half_way, counts, Holds}
use Rattle.examples.proofs.Parts.{connected, parts_open, one_part, no_part}
use Rattle.examples.proofs.Rising.{is_true, after, step_taken, all_taken, run_through}
use Rattle.examples.proofs.Totals.{census_agrees, padded, skin, vertices, counted}

-- a grid edge from the border to the first sample
abbrev hub : GridEdge
hub = record { low = record { x = 0; y = 0; z = 0 }; direction = 7 }

-- no part where there are no vertices, and one where three sweeps from the hub reach all
unfoldable parts_agree : Sides → Bool → ℕ → ℕ → Bool
parts_agree n all v zero = eqb v 0
parts_agree n all v (suc zero) = crossed (block n all half_way).inside hub and connected (block n all half_way) hub 3
parts_agree n all v (suc (suc p)) = false

unfoldable check : Example → Bool
check (densities a b h num den lower upper) = densities_cross a b h num den lower upper
check (ratios a b h num den lower upper) = ratios_cross a b h num den lower upper
check (taken n) = accepts (sides_refusal n)
check (refused n number axis) = refuses (sides_refusal n) number axis
check (no_room records number place) = march_refused records number place
check (adds records vertices triangles) = march_adds records vertices triangles
check (skinned n all v e t x p) = census_agrees n all v e t x and (parts_agree n all v p and all_taken (block n all half_way) v t)

groups : (n : Sides) (all : Bool) (place : GridEdge → Coordinates) (v e t x : ℕ) → T (census_agrees n all v e t x)
    → (s : State) (r : Run (block n all place) s) (full : AllMarched (block n all place) s)
    → (p : ℕ) → T (parts_agree n all v p) → Groups (mesh s) (vertex_count s) p
unfolding parts_agree parts_open tiles
groups n all place v e t x c s r full zero h =
    subst (λ (k : ℕ). Groups (mesh s) k 0) (sym (vertices n all place v e t x c s r full)) (no_part (mesh s) v (eqb→eq v 0 h))
groups n all place v e t x c s r full (suc zero) h =
    let k = skin n all place s r in
    one_part (block n all place) s k.vertices k.triangles full hub (padded n all place) (k.closes full).closed (lit< tt) (lit< tt)
    (is_true _ (left _ _ h)) 3 (right _ _ h)
groups n all place v e t x c s r full (suc (suc p)) h = absurd h

-- every field of a block is this one, for some places
the_block : (n : Sides) (all : Bool) (f : Field) → Block n all f → f ≡ block n all f.place
the_block n all f b = λ i. record { sides = b.sides i; inside = λ p. b.inside p i; place = f.place }

sound : (x : Example) → T (check x) → Holds x
unfolding check
sound (densities a b h num den lower upper) k = k
sound (ratios a b h num den lower upper) k = k
sound (taken n) k = k
sound (refused n o axis) k = k
sound (no_room m o place) k = k
sound (adds m v t) k = k
sound (skinned n all v e t x p) k =
    let c = left (census_agrees n all v e t x) (parts_agree n all v p and all_taken (block n all half_way) v t) k in
    let q = right (census_agrees n all v e t x) (parts_agree n all v p and all_taken (block n all half_way) v t) k in
    let g = left (parts_agree n all v p) (all_taken (block n all half_way) v t) q in
    record {
      some = run_through (block n all half_way) v t (right (parts_agree n all v p) (all_taken (block n all half_way) v t) q);
      every = λ f b.
          subst (λ (h : Field). (s : State) → Run h s → AllMarched h s → Counted (vertex_count s) (mesh s) (counts v e t x p)) (sym (the_block n all f b))
          (λ s r full. counted n all f.place v e t x c s r full p (groups n all f.place v e t x c s r full p g));
    }

all_sound : (xs : List Example) → T (all_l check xs) → All Holds xs
all_sound [] h = tt
all_sound (x ∷ xs) h = (sound x (left (check x) (all_l check xs) h), all_sound xs (right (check x) (all_l check xs) h))

-- all that the test computes with
unfoldable all_open : ℕ
unfolding table_open parts_open over_points over_cells full count tiles crossed mask placed tet_triangles cell_triangles cell_edges vertex_on with_vertex free seek slot march_refusal marched begun need number named added added_all after step_taken all_taken census_agrees parts_agree check
all_open = 0

computed : T (all_l check examples)
unfolding all_open
computed = tt

pub rows_hold : All Holds examples
rows_hold = all_sound examples computed
