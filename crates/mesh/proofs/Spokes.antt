-- Turning from neighbour to neighbour, by the table of directed edges, goes along with the triangles. Assumes nothing.
use Rattle.std.proofs.Common.{◌≡◌, ℕ, zero, suc, List, length, Option, unwrap_or, sym, ap, ◌∙◌, subst}
use Rattle.grid.specs.declared.geometry.Triangle.{Triangle}
use Rattle.keymap.specs.declared.table.Entry.{Entry}
use Rattle.mesh.specs.declared.sides.DirectedEdge.{DirectedEdge}
use Rattle.mesh.specs.Triangles.{triangle_at, Runs, Has}
use Rattle.mesh.specs.Rings.{At, OneRing, MoreRings}
use Rattle.mesh.specs.Counting.{count, is_at}
use Rattle.mesh.specs.EdgeTables.{turn, after, Noted, Early}
use Rattle.mesh.proofs.Round.{Mesh, before, before_one, after_one, runs_third, runs_corner, onward, goes, stepped, ring_whole, ring_more}

module _ (ts : List (Triangle ℕ)) (mesh : Mesh ts) (es : List (Option (Entry DirectedEdge))) (noted : Noted ts (length ts) es) (v : ℕ) where
  turned : (k x : ℕ) → At ts v k → Runs (triangle_at ts k) v x → Runs (triangle_at ts (onward ts mesh v k)) v (turn es v x)
  turned k x a r =
      let t = triangle_at ts k in
      let d = mesh.different k a.within in
      let g = goes ts mesh v k a in
      let held = noted.held v x (before t v) k a.within r (runs_third t v x d r) in
      let e : g.over ≡ turn es v x = before_one t g.over v d g.inward ∙ sym (ap (λ (o : Option ℕ). unwrap_or o 0) held) in
      subst (λ (w : ℕ). Runs (triangle_at ts (onward ts mesh v k)) v w) e g.outward

  module _ (x : ℕ) (spoke : Has ts (length ts) v x) where
    abbrev s : ℕ
    s = spoke.at

    start : At ts v spoke.at
    start = record { within = spoke.within; corner = runs_corner (triangle_at ts s) v x spoke.runs }

    spokes : (m : ℕ) → Runs (triangle_at ts (after (onward ts mesh v) m s)) v (after (turn es v) m x)
    unfolding after
    spokes zero = spoke.runs
    spokes (suc m) = turned (after (onward ts mesh v) m s) (after (turn es v) m x) (stepped ts mesh v s start m).0 (spokes m)

    pub early_more : Early es v x (count (is_at ts v) (length ts)) → MoreRings ts v
    early_more e =
        let m = e.turns in
        let a = (stepped ts mesh v s start m).0 in
        let r = subst (λ (w : ℕ). Runs (triangle_at ts (after (onward ts mesh v) m s)) v w) e.back (spokes m) in
        ring_more ts mesh v s start m e.some e.few (mesh.once (after (onward ts mesh v) m s) s v x a.within spoke.within r spoke.runs)

    pub late_one : (Early es v x (count (is_at ts v) (length ts)) → ⊥) → OneRing ts v
    late_one late =
        ring_whole ts mesh v s start (λ m p q e.
        let r = subst (λ (k : ℕ). Runs (triangle_at ts k) v (after (turn es v) m x)) e (spokes m) in
        late (record {
          turns = m;
          some = p;
          few = q;
          back = after_one (triangle_at ts s) v (after (turn es v) m x) x (mesh.different s spoke.within) r spoke.runs;
        }))
