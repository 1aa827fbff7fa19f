-- The laws are not empty: what they say at small grids.
use Rattle.std.proofs.Common.{◌≡◌, ℕ, Bool, ◌&&◌, eqb, leb, refl, arith, lit<}
use Rattle.std.proofs.lemmas.Bool.Decides.{nat_tests}
use Rattle.grid.specs.declared.geometry.Point.{Point}
use Rattle.grid.specs.declared.geometry.GridEdge.{GridEdge}
use Rattle.grid.specs.Points.{Sides, crossed}
use Rattle.grid.specs.Cells.{mask, placed, tet_triangles, cell_triangles}
use Rattle.topology.specs.Sides.{Side, Lives, Opposed, Padded, none, its_triangle, source, target}
use Rattle.topology.specs.Rings.{Ring}
use Rattle.topology.specs.Census.{over_points, over_cells, full, count, V, F, N0, N1, N2, N3}
use Rattle.topology.proofs.Tables.{table_open}
use Rattle.topology.proofs.Whole.{closed, padded_grounded}
use Rattle.topology.proofs.Ringed.{ringed}
use Rattle.topology.specs.Sides.{start, end}

abbrev at : ℕ → ℕ → ℕ → Point
at x y z = record { x = x; y = y; z = z }

abbrev grid : ℕ → ℕ → ℕ → Sides
grid x y z = record { nx = x; ny = y; nz = z }

unfoldable small_open : ℕ
unfolding table_open crossed mask placed tet_triangles cell_triangles over_points over_cells full count none its_triangle start end source target
small_open = 0

-- one point inside
abbrev dot : Point → Bool
dot p = eqb p.x 1 && (eqb p.y 1 && eqb p.z 1)

dot_padded : Padded (grid 1 1 1) dot
dot_padded p t = grind (arith, nat_tests)

dot_counts : (V (grid 1 1 1) dot ≡ 14) × (F (grid 1 1 1) dot ≡ 24) × (N0 (grid 1 1 1) dot ≡ 1) × (N1 (grid 1 1 1) dot ≡ 0)
unfolding small_open
dot_counts = (refl, refl, refl, refl)

-- two by two by two points inside
abbrev block : Point → Bool
block p = leb 1 p.x && (leb p.x 2 && (leb 1 p.y && (leb p.y 2 && (leb 1 p.z && leb p.z 2))))

block_counts : (V (grid 2 2 2) block ≡ 74) × (F (grid 2 2 2) block ≡ 144) × (N0 (grid 2 2 2) block ≡ 8) × (N1 (grid 2 2 2) block ≡ 19) × (N2 (grid 2 2 2) block ≡ 18) × (N3 (grid 2 2 2) block ≡ 6)
unfolding small_open
block_counts = (refl, refl, refl, refl, refl, refl)

-- a side round the one point, and its opposite; a grid edge below the point, and its ring
first : Side
first = record { base = at 0 0 0; triangle = 0; turn = 0 }

first_lives : Lives dot first
unfolding small_open first
first_lives = record { triangle = lit< tt; turn = lit< tt }

first_opposed : (r : Side) × Opposed dot first r
first_opposed = closed dot (padded_grounded (grid 1 1 1) dot dot_padded) first first_lives

below : GridEdge
below = record { low = at 0 0 0; direction = 7 }

below_ring : Ring dot below
unfolding small_open below
below_ring = ringed dot (padded_grounded (grid 1 1 1) dot dot_padded) (record { low = at 0 0 0; direction = 7 }) (lit< tt) (lit< tt) refl
