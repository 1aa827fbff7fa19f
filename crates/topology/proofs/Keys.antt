-- A key of a directed mesh edge that does not change when the edge is moved, and a table of the owner of each key.
use Rattle.std.proofs.Common.{◌≡◌, ℕ, zero, suc, ◌+◌, ◌-◌, ◌*◌, ◌<◌, Bool, true, false, T, eqb, List, [], ◌∷◌, ◌++◌, length, get_or, arith, eqb→eq}
use Rattle.grid.specs.declared.geometry.GridEdge.{GridEdge}
use Rattle.grid.specs.declared.geometry.Point.{Point}
use Rattle.grid.specs.declared.geometry.TetEdge.{TetEdge}
use Rattle.grid.specs.Points.{◌⊕◌}
use Rattle.grid.specs.Cases.{low_position, no_case, row}
use Rattle.grid.specs.Cells.{corner, odd, edge}
use Rattle.topology.specs.Sides.{start, end}
use Rattle.topology.proofs.Finite.{◌and◌, all, left, right, all_at}
use Rattle.topology.proofs.Moved.{zeros, shift}
use Rattle.topology.proofs.Tables.{bit, table_open}

-- the directions of the two grid edges, how the second lies to the first, and whether the lower end of the first is inside
unfoldable pub key : ℕ → GridEdge → GridEdge → ℕ
key b e f =
    b + 2 * (e.direction + 8 * (f.direction + 8 * ((f.low.x + 1 - e.low.x) + 4 * ((f.low.y + 1 - e.low.y) + 4 * (f.low.z + 1 - e.low.z)))))

diff : (c m n : ℕ) → c + m + 1 - (c + n) ≡ m + 1 - n
diff c m n = omega arith

pub key_shift : (C : Point) (b : ℕ) (e f : GridEdge) → key b (shift C e) (shift C f) ≡ key b e f
unfolding key shift ◌⊕◌
key_shift C b e f = simp diff

-- what side j of triangle i of tetrahedron t at mask w runs from and to
unfoldable pub from : ℕ → ℕ → ℕ → ℕ → TetEdge
from t w i j = start j (get_or (row (odd t) w) i no_case)

unfoldable pub to : ℕ → ℕ → ℕ → ℕ → TetEdge
to t w i j = end j (get_or (row (odd t) w) i no_case)

-- the key of that side
unfoldable pub code : ℕ → ℕ → ℕ → ℕ → ℕ
code t w i j = let p = from t w i j in key (bit w (low_position p)) (edge zeros t p) (edge zeros t (to t w i j))

-- the owner of a key: the tetrahedron, and which of its corners is the lower end of the first grid edge; in one tetrahedron: the
-- triangle, and its side
pub record Entry : Type 0 where
  pub code : ℕ
  pub one : ℕ
  pub two : ℕ

unfoldable pub gather : {A : Type 0} → ℕ → (ℕ → List A) → List A
gather zero f = []
gather (suc n) f = f n ++ gather n f

unfoldable pub table : List Entry
table = gather 6 λ t. gather 16 λ w. gather (length (row (odd t) w)) λ i. gather 3 λ j.
    record { code = code t w i j; one = t; two = corner t (low_position (from t w i j)) } ∷ []

unfoldable pub local : ℕ → ℕ → List Entry
local t w = gather (length (row (odd t) w)) λ i. gather 3 λ j. record { code = code t w i j; one = i; two = j } ∷ []

unfoldable pub find : List Entry → ℕ → Entry
find [] k = record { code = 0; one = 0; two = 0 }
find (e ∷ es) k = elim (eqb e.code k) [ true ↦ e | false ↦ find es k ]

-- a test at each side of each triangle at each mask
abbrev pub each : (ℕ → ℕ → ℕ → ℕ → Bool) → Bool
each f = all 6 λ t. all 16 λ w. all (length (row (odd t) w)) λ i. all 3 λ j. f t w i j

pub each_at : (f : ℕ → ℕ → ℕ → ℕ → Bool) → T (each f) → (t w i j : ℕ) → t < 6 → w < 16 → i < length (row (odd t) w) → j < 3 → T (f t w i j)
each_at f h t w i j ht hw hi hj =
    let h1 = all_at 6 (λ t. all 16 λ w. all (length (row (odd t) w)) λ i. all 3 λ j. f t w i j) h t ht in
    let h2 = all_at 16 (λ w. all (length (row (odd t) w)) λ i. all 3 λ j. f t w i j) h1 w hw in
    let h3 = all_at (length (row (odd t) w)) (λ i. all 3 λ j. f t w i j) h2 i hi in
    all_at 3 (λ j. f t w i j) h3 j hj

-- all that computes, for the tests
unfoldable pub key_open : ℕ
unfolding table_open start end key from to code gather table local find
key_open = 0

unfoldable pub check_one : ℕ → ℕ → ℕ → ℕ → Bool
check_one t w i j =
    let k = code t w i j in
    let e = find table k in
    let l = find (local t w) k in
    eqb e.one t and (eqb e.two (corner t (low_position (from t w i j))) and (eqb l.one i and eqb l.two j))

fact_one : T (each check_one)
unfolding key_open check_one
fact_one = tt

-- what the test says
pub record One (t w i j : ℕ) : Type 0 where
  pub tet : (find table (code t w i j)).one ≡ t
  pub low : (find table (code t w i j)).two ≡ corner t (low_position (from t w i j))
  pub tri : (find (local t w) (code t w i j)).one ≡ i
  pub turn : (find (local t w) (code t w i j)).two ≡ j

pub one : (t w i j : ℕ) → t < 6 → w < 16 → i < length (row (odd t) w) → j < 3 → One t w i j
unfolding check_one
one t w i j ht hw hi hj =
    let h = each_at check_one fact_one t w i j ht hw hi hj in
    let h1 = right _ _ h in
    let h2 = right _ _ h1 in
    record {
      tet = eqb→eq _ _ (left _ _ h);
      low = eqb→eq _ _ (left _ _ h1);
      tri = eqb→eq _ _ (left _ _ h2);
      turn = eqb→eq _ _ (right _ _ h2);
    }
