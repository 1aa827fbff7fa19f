-- The rules of the case table: one computed test over all its rows each. Assumes nothing.
use Rattle.std.proofs.Common.{◌≡◌, ℕ, ◌<◌, ◌≤◌, Bool, true, false, cond, eqb, ltb, leb, List, [], ◌∷◌, map, length, get_or, take, sym, refl, ap, ◌∙◌, subst, arith}
use lib.Count.{ones, ones_in}
use Rattle.std.proofs.lemmas.List.{get_or-map, map-id}
use Rattle.std.proofs.lemmas.Bool.{eqb-true, ltb-true, leb-true, lt-ltb}
use Rattle.grid.specs.declared.geometry.Triangle.{Triangle}
use Rattle.grid.specs.declared.geometry.TetEdge.{TetEdge}
use Rattle.grid.specs.Cells.{tetrahedra, corner}
use Rattle.grid.specs.Cases.{rows, row, swap, turned, no_case}
use Rattle.grid.specs.Table.{filled, table, table_row}
use Rattle.grid.proofs.Below.{below, below_at}

-- how many triangles a tetrahedron with n corners inside has
abbrev pub by_ones : ℕ → ℕ
by_ones n = cond (eqb n 1) 1 (cond (eqb n 3) 1 (cond (eqb n 2) 2 0))

counted : below (λ m. eqb (length (get_or rows m [])) (by_ones (ones m))) 16 ≡ true
unfolding ones ones_in rows swap
counted = refl

pub count_by_ones : (m : ℕ) → m < 16 → length (get_or rows m []) ≡ by_ones (ones m)
count_by_ones m h = eqb-true (length (get_or rows m [])) (by_ones (ones m)) (below_at (λ k. eqb (length (get_or rows k [])) (by_ones (ones k))) 16 counted m h)

small : below (λ m. leb (length (get_or rows m [])) 2) 16 ≡ true
unfolding rows swap
small = refl

pub two_at_most : (m : ℕ) → m < 16 → length (get_or rows m []) ≤ 2
two_at_most m h = leb-true (length (get_or rows m [])) 2 (below_at (λ k. leb (length (get_or rows k [])) 2) 16 small m h)

-- the table as it is written out
sixteen : length rows ≡ 16
unfolding rows
sixteen = refl

abbrev unwritten : List (Triangle TetEdge)
unwritten = no_case ∷ no_case ∷ []

writes : map filled rows ≡ table
unfolding filled rows swap
writes = refl

pub written : (m : ℕ) → m < 16 → table_row m ≡ filled (get_or rows m [])
written m h =
    ap (λ (l : List (List (Triangle TetEdge))). get_or l m unwritten) (sym writes)
    ∙ get_or-map filled rows m [] unwritten (subst (λ (n : ℕ). m < n) (sym sixteen) h)

-- a row as it runs round in an odd or an even tetrahedron
pub row_turned : (o : Bool) (m : ℕ) → row o m ≡ map (turned o) (get_or rows m [])
unfolding row
row_turned true m = refl
row_turned false m = sym (map-id (get_or rows m []))

-- as many triangles as a row has, of those that it is filled up to
counted_of : (l : List (Triangle TetEdge)) → length l ≤ 2 → take (length l) (filled l) ≡ l
unfolding filled
counted_of [] h = refl
counted_of (t ∷ []) h = refl
counted_of (t ∷ u ∷ []) h = refl
counted_of (t ∷ u ∷ v ∷ l) h = absurd (omega arith)

pub row_counted : (m n : ℕ) (r : List (Triangle TetEdge)) → m < 16 → r ≡ table_row m → n ≡ length (get_or rows m []) → take n r ≡ get_or rows m []
row_counted m n r h e k = (λ j. take (k j) ((e ∙ written m h) j)) ∙ counted_of (get_or rows m []) (two_at_most m h)

-- corner codes rise along a tetrahedron
rising : below (λ t. below (λ n. below (λ m. cond (ltb m n) (ltb (corner t m) (corner t n)) true) 4) 4) 6 ≡ true
unfolding corner tetrahedra
rising = refl

pub corners_rise : (t m n : ℕ) → t < 6 → m < n → n < 4 → corner t m < corner t n
corners_rise t m n ht hm hn =
    let a = below_at (λ t. below (λ n. below (λ m. cond (ltb m n) (ltb (corner t m) (corner t n)) true) 4) 4) 6 rising t ht in
    let b = below_at (λ n. below (λ m. cond (ltb m n) (ltb (corner t m) (corner t n)) true) 4) 4 a n hn in
    let d = below_at (λ m. cond (ltb m n) (ltb (corner t m) (corner t n)) true) 4 b m (omega arith) in
    ltb-true (corner t m) (corner t n) (sym (ap (λ (q : Bool). cond q (ltb (corner t m) (corner t n)) true) (lt-ltb m n hm)) ∙ d)
