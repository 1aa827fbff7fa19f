use Rattle.std.proofs.Common.{◌≡◌, ℕ, ◌+◌, ◌<◌, false, None, Option, List, length, replicate, sym, ap, ◌∙◌, subst, arith, below_more}
use Rattle.keymap.specs.declared.table.Entry.{Entry}
use Rattle.keymap.specs.Frees.{free}
use Rattle.keymap.proofs.Frees.{free_cleared}
use Rattle.mesh.specs.declared.sides.DirectedEdge.{DirectedEdge}
use Rattle.mesh.specs.Triangles.{triangle_at, Apart}
use Rattle.mesh.specs.First.{Clear}
use Rattle.mesh.specs.Faults.{Doubled}
use Rattle.mesh.specs.EdgeTables.{seen, Noted}
use Rattle.mesh.proofs.Named.{mesh_apart}
use Rattle.mesh.proofs.EdgeNotes.{noted_none, noted_more, seen_doubled, unseen_clear}
use Rattle.mesh.proofs.edges.first_doubled.Goals as goal

pub loop-k-init : goal.loop-k-init
loop-k-init c =
    let n = length c.args.map.now.entries.now in
    let es = c.clear.new.self.entries.now in
    let clear : es ≡ replicate n None = c.clear.ensures.free in
    let all : free es ≡ n = ap free clear ∙ free_cleared DirectedEdge n in (
      λ k h d. omega arith,
      subst (λ (fs : List (Option (Entry DirectedEdge))). Noted c.args.mesh.triangles.now 0 fs) (sym clear) (noted_none c.args.mesh.triangles.now n),
      omega arith,
    )

pub returns-then-seen : goal.returns-then-seen
returns-then-seen c =
    record {
      first = (c.loop-k-test.true, seen_doubled c.args.mesh.triangles.now c.loop-k.k c.loop-k.map.entries.now c.loop-k.invariant.1 (sym c.if-seen.ensures), c.loop-k.invariant.0);
      noted = tt;
    }

pub loop-k-preserved : goal.loop-k-preserved
loop-k-preserved c =
    let ts = c.args.mesh.triangles.now in
    let k = c.loop-k.k in
    let es = c.loop-k.map.entries.now in
    let noted = c.loop-k.invariant.1 in
    let unseen : seen es (triangle_at ts k) ≡ false = sym c.if-seen.ensures in
    let edges = c.directed_edges.ensures in
    let different : (j : ℕ) → j < k + 1 → Apart (triangle_at ts j) = λ j h. mesh_apart c.args.mesh j (omega (arith, c.loop-k-test.true)) in (
      below_more _ _ c.loop-k.invariant.0 (unseen_clear ts k es noted unseen different),
      noted_more ts k es noted unseen different _ _ _ (rw edges at c.note.ensures) (rw edges at c.note-in-loop-k.ensures) (rw edges at c.note-in-loop-k-2.ensures),
      omega (arith, c.note.ensures.fewer, c.note-in-loop-k.ensures.fewer, c.note-in-loop-k-2.ensures.fewer),
    )

pub returns : goal.returns
returns c =
    let e : c.loop-k.k ≡ length c.args.mesh.triangles.now = omega arith in
    record {
      first = subst (λ (n : ℕ). Clear (Doubled c.args.mesh.triangles.now) n) e c.loop-k.invariant.0;
      noted = subst (λ (n : ℕ). Noted c.args.mesh.triangles.now n c.loop-k.map.entries.now) e c.loop-k.invariant.1;
    }
