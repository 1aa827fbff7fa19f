use Rattle.std.proofs.Common.{◌≡◌, ℕ, ◌+◌, ◌≤◌, true, [], ◌∷◌, is_ok, ◌∙◌, rules}
use Rattle.keymap.specs.Probe.{slot}
use Rattle.keymap.specs.Frees.{free}
use Rattle.keymap.proofs.Frees.{free_put, slot_free}
use Rattle.mesh.specs.Sides.{edge_ends, edge_hash}
use Rattle.mesh.specs.EdgeTables.{found}
use Rattle.mesh.proofs.edges.note.Goals as goal

same_ends : (a b x y : ℕ) → a ∷ b ∷ [] ≡ x ∷ y ∷ [] → (a ≡ x) × (b ≡ y)
same_ends a b x y e = (cc, cc)

pub unwrap-requires : goal.unwrap-requires
unwrap-requires c =
    let ok : is_ok c.insert.result ≡ true = c.insert.ensures.answer ∙ slot_free edge_ends edge_hash c.args.map.now.entries.now (edge_ends c.args.edge) c.requires.room in
    search rules

pub returns : goal.returns
unfolding found
returns c =
    let es = c.args.map.now.entries.now in
    let fs = c.insert.new.self.entries.now in
    let edge = c.args.edge in
    let m = c.insert.ensures.maps c.requires.sound in
    let fewer : free es ≤ free fs + 1 = rw c.insert.ensures.entries (free_put es (slot edge_ends edge_hash es (edge_ends edge)) edge c.args.third) in
    record {
      sound = m.sound;
      here = m.here (slot_free edge_ends edge_hash es (edge_ends edge) c.requires.room);
      others = λ u v d. m.others (u ∷ v ∷ []) (λ e. d (same_ends u v edge.from edge.to e));
      fewer = fewer;
    }
