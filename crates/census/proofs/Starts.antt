-- What starts at a point, by the flags of the corners of its cell. Assumes nothing.
use Rattle.std.proofs.Common.{◌≡◌, ℕ, Bool, true, false, cond, ◌&&◌, List, [], ◌∷◌, map, count_by, refl, ap, ◌∙◌, arith}
use mathlib.Core.Bool.{and-true, and_assoc}
use Rattle.std.proofs.lemmas.List.Sums.{sum_by-cons}
use Rattle.grid.specs.declared.geometry.Point.{Point}
use Rattle.grid.specs.Points.{offset}
use Rattle.grid.specs.Cells.{tetrahedra}
use Rattle.grid.specs.Patterns.{corner_flags, flag}
use Rattle.topology.specs.Census.{every_inside, triangle_codes}
use Rattle.topology.proofs.Moved.{zeros, ⊕_zeros}
use Rattle.census.specs.declared.counts.Census.{Census}
use Rattle.census.specs.Counts.{FlagsStarting, Starting, point_codes, edge_codes, starting, flag_starting}

-- codes without the first, which is 0
abbrev tail : List ℕ → List ℕ
tail [] = []
tail (c ∷ more) = more

abbrev pub tails : List (List ℕ) → List (List ℕ)
tails = map tail

-- the tests of the further corners count what starts at a base that is inside
module _ (f : List Bool) (e : flag f 0 ≡ true) where
  pub point_start : 1 ≡ flag_starting f point_codes
  unfolding flag_starting
  point_start = simp e

  pub edges_start : count_by (λ b. b) (flag f 1 ∷ flag f 2 ∷ flag f 3 ∷ flag f 4 ∷ flag f 5 ∷ flag f 6 ∷ flag f 7 ∷ []) ≡ flag_starting f edge_codes
  unfolding flag_starting
  edges_start = simp (e, and-true)

  pub triangles_start :
      count_by (λ b. b) (
      (flag f 1 && flag f 3) ∷ (flag f 1 && flag f 5) ∷ (flag f 1 && flag f 7) ∷ (flag f 2 && flag f 3) ∷ (flag f 2 && flag f 6) ∷ (flag f 2 && flag f 7)
      ∷ (flag f 3 && flag f 7) ∷ (flag f 4 && flag f 5) ∷ (flag f 4 && flag f 6) ∷ (flag f 4 && flag f 7) ∷ (flag f 5 && flag f 7) ∷ (flag f 6 && flag f 7) ∷ []
      ) ≡ flag_starting f triangle_codes
  unfolding flag_starting
  triangles_start = simp (e, and-true)

  pub tetrahedra_start :
      count_by (λ b. b) (
      ((flag f 1 && flag f 3) && flag f 7) ∷ ((flag f 1 && flag f 5) && flag f 7) ∷ ((flag f 2 && flag f 3) && flag f 7)
      ∷ ((flag f 2 && flag f 6) && flag f 7) ∷ ((flag f 4 && flag f 5) && flag f 7) ∷ ((flag f 4 && flag f 6) && flag f 7) ∷ []
      ) ≡ flag_starting f tetrahedra
  unfolding flag_starting tetrahedra
  tetrahedra_start = simp (e, and-true, and_assoc)

-- nothing starts at a base that is outside
module _ (f : List Bool) (e : flag f 0 ≡ false) where
  pub no_points : flag_starting f point_codes ≡ 0
  unfolding flag_starting
  no_points = simp e

  pub no_edges : flag_starting f edge_codes ≡ 0
  unfolding flag_starting
  no_edges = simp e

  pub no_triangles : flag_starting f triangle_codes ≡ 0
  unfolding flag_starting
  no_triangles = simp e

  pub no_tetrahedra : flag_starting f tetrahedra ≡ 0
  unfolding flag_starting tetrahedra
  no_tetrahedra = simp e

-- the flags of the corners of the cell at P say what starts at P
module _ (inside : Point → Bool) (P : Point) where
  pub by_flags : (c : Census) → FlagsStarting (corner_flags inside P) c → Starting inside P c
  unfolding flag_starting starting corner_flags tetrahedra
  by_flags c h = record { points = h.points; edges = h.edges; triangles = h.triangles; tetrahedra = h.tetrahedra; few = h.few }

  -- nothing starts at a point that is outside
  pub none_start : (tails : List (List ℕ)) → inside P ≡ false → starting inside (map (λ m. 0 ∷ m) tails) P ≡ 0
  unfolding starting zeros offset
  none_start [] e = refl
  none_start (m ∷ more) e =
      let f : List ℕ → ℕ = λ codes. cond (every_inside inside P codes) 1 0 in
      let here : f (0 ∷ m) ≡ 0 = ap (λ b. cond (b && every_inside inside P m) 1 0) (ap inside (⊕_zeros P) ∙ e) in
      sum_by-cons f (0 ∷ m) (map (λ m. 0 ∷ m) more) ∙ omega (arith, here, none_start more e)
