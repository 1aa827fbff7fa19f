-- The tests for the side that runs against a given one.
use Rattle.std.proofs.Common.{ℕ, ◌+◌, ◌-◌, min, max, Bool, true, false, not, ◌||◌, T, eqb, ltb, leb, length}
use lib.Bits.{bit_and}
use Rattle.grid.specs.declared.geometry.GridEdge.{GridEdge}
use Rattle.grid.specs.declared.geometry.Point.{Point}
use Rattle.grid.specs.Points.{◌⊕◌, offset, top}
use Rattle.grid.specs.Cases.{low_position, high_position, row}
use Rattle.grid.specs.Cells.{odd, vertex, edge}
use Rattle.grid.specs.declared.geometry.GridTriangle.{GridTriangle}
use Rattle.topology.proofs.Finite.{◌and◌, all, imp}
use Rattle.topology.proofs.Moved.{zeros, ones, ◌⊖◌, eq_point, eq_edge}
use Rattle.topology.proofs.Tables.{bit}
use Rattle.topology.proofs.Keys.{key, from, to, table, local, find, each, key_open}

-- two masks agree where the tetrahedra share corners
unfoldable pub agree : Point → ℕ → ℕ → Point → ℕ → ℕ → Bool
agree u t w v s x = all 4 λ m. all 4 λ n. imp (eq_point (vertex u t m) (vertex v s n)) λ _. eqb (bit w m) (bit x n)

-- the key of the opposite, the tetrahedron that runs along that, and its cell where the side itself is in the cell at (1, 1, 1)
unfoldable pub back : ℕ → ℕ → ℕ → ℕ → ℕ
back t w i j = key (bit w (low_position (to t w i j))) (edge zeros t (to t w i j)) (edge zeros t (from t w i j))

unfoldable pub other : ℕ → ℕ → ℕ → ℕ → ℕ
other t w i j = (find table (back t w i j)).one

unfoldable pub above : ℕ → ℕ → ℕ → ℕ → Point
above t w i j = (edge ones t (to t w i j)).low ⊖ offset (find table (back t w i j)).two

-- the least base that leaves room below for that cell; the side there, and the opposite's cell
unfoldable pub lift : ℕ → ℕ → ℕ → ℕ → Point
lift t w i j = ones ⊖ above t w i j

unfoldable pub head : ℕ → ℕ → ℕ → ℕ → GridEdge
head t w i j = edge (lift t w i j) t (from t w i j)

unfoldable pub tail : ℕ → ℕ → ℕ → ℕ → GridEdge
tail t w i j = edge (lift t w i j) t (to t w i j)

unfoldable pub there : ℕ → ℕ → ℕ → ℕ → Point
there t w i j = (tail t w i j).low ⊖ offset (find table (back t w i j)).two

-- the room is there: both ends of the first grid edge lie on the planes at 0 where the base has to go up
unfoldable pub low_at : Point → Point → Bool
low_at l p = ltb (l.x + p.x) 2 and (ltb (l.y + p.y) 2 and ltb (l.z + p.z) 2)

unfoldable pub check_room : ℕ → ℕ → ℕ → ℕ → Bool
check_room t w i j =
    let p = from t w i j in
    let l = lift t w i j in
    low_at l (vertex zeros t (low_position p)) and (low_at l (vertex zeros t (high_position p)) and eq_point (l ⊕ above t w i j) (ones ⊕ there t w i j))

-- the other tetrahedron does run along the opposite, whatever the value of its far corner
unfoldable pub check_run : ℕ → ℕ → ℕ → ℕ → ℕ → Bool
check_run t w i j x =
    let s = other t w i j in
    let u = there t w i j in
    let l = find (local s x) (back t w i j) in
    ltb l.one (length (row (odd s) x)) and (ltb l.two 3 and
    (eq_edge (edge u s (from s x l.one l.two)) (tail t w i j) and eq_edge (edge u s (to s x l.one l.two)) (head t w i j)))

unfoldable pub check_runs : ℕ → ℕ → ℕ → ℕ → Bool
check_runs t w i j =
    ltb (other t w i j) 6 and all 16 λ x. imp (agree (lift t w i j) t w (there t w i j) (other t w i j) x) λ _. check_run t w i j x

-- the grid triangle with two given edges
unfoldable pub flat : GridEdge → GridEdge → GridTriangle
flat e f =
    let d = e.direction in
    let c = f.direction in
    elim (eq_point e.low f.low) [
      | true ↦ record { low = e.low; a = min d c; b = max d c }
      | false ↦ elim (eq_point (top e) f.low) [
        | true ↦ record { low = e.low; a = d; b = d + c }
        | false ↦ elim (eq_point (top f) e.low) [
          | true ↦ record { low = f.low; a = c; b = d + c }
          | false ↦ elim (ltb d c) [
            | true ↦ record { low = f.low; a = c - d; b = c }
            | false ↦ record { low = e.low; a = d - c; b = d }
          ]
        ]
      ]
    ]

unfoldable pub part : ℕ → ℕ → Bool
part a b = ltb b 8 and (eqb (bit_and a b) a and (not (eqb a 0) and not (eqb a b)))

unfoldable pub belongs : Point → Point → Bool
belongs b p =
    leb b.x p.x and (leb p.x (b.x + 1) and (leb b.y p.y and (leb p.y (b.y + 1) and (leb b.z p.z and leb p.z (b.z + 1)))))

unfoldable pub in_cell : Point → GridTriangle → Bool
in_cell b g = belongs b g.low and (belongs b (g.low ⊕ offset g.a) and belongs b (g.low ⊕ offset g.b))

unfoldable pub edge_of : GridTriangle → GridEdge → Bool
edge_of g e =
    eq_edge e (record { low = g.low; direction = g.a })
    || (eq_edge e (record { low = g.low; direction = g.b }) || eq_edge e (record { low = g.low ⊕ offset g.a; direction = g.b - g.a }))

unfoldable pub on_wall : Point → Point → GridEdge → GridEdge → GridTriangle → Bool
on_wall u v e f g = not (eq_point u v) and (part g.a g.b and (in_cell u g and (in_cell v g and (edge_of g e and edge_of g f))))

-- the opposite is in the same cell, or across a wall
unfoldable pub check_place : ℕ → ℕ → ℕ → ℕ → Bool
check_place t w i j =
    let u = lift t w i j in
    let v = there t w i j in
    let e = head t w i j in
    let f = tail t w i j in
    eq_point v u || on_wall u v e f (flat e f)

-- a cell that has the ends of both crossings is one of these two
unfoldable pub shared : Point → GridEdge → GridEdge → Bool
shared b e f = belongs b e.low and (belongs b (top e) and (belongs b f.low and belongs b (top f)))

unfoldable pub down : Point → ℕ → ℕ → ℕ → Point
down p x y z = record { x = p.x - x; y = p.y - y; z = p.z - z }

unfoldable pub check_down : ℕ → ℕ → ℕ → ℕ → ℕ → ℕ → ℕ → Bool
check_down t w i j x y z =
    let e = edge ones t (from t w i j) in
    let b = down e.low x y z in
    imp (shared b e (edge ones t (to t w i j))) λ _. eq_point b ones || eq_point b (above t w i j)

unfoldable pub check_cells : ℕ → ℕ → ℕ → ℕ → Bool
check_cells t w i j = all 2 λ x. all 2 λ y. all 2 λ z. check_down t w i j x y z

unfoldable pub across_open : ℕ
unfolding key_open ones ◌⊖◌ agree back other above lift head tail there low_at flat part belongs in_cell edge_of on_wall shared down
across_open = 0

pub fact_room : T (each check_room)
unfolding across_open check_room
fact_room = tt

pub fact_runs : T (each check_runs)
unfolding across_open check_run check_runs
fact_runs = tt

pub fact_place : T (each check_place)
unfolding across_open check_place
fact_place = tt

pub fact_cells : T (each check_cells)
unfolding across_open check_down check_cells
fact_cells = tt

-- the ends of the third edge of a grid triangle are corners of it
unfoldable pub check_end : ℕ → ℕ → Bool
check_end a b = imp (part a b) λ _. eq_point (offset a ⊕ offset (b - a)) (offset b)

pub fact_end : T (all 8 λ a. all 8 λ b. check_end a b)
unfolding across_open check_end
fact_end = tt
