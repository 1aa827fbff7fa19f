use Rattle.std.proofs.Common.{Some, ◌∙◌, rules}
use Rattle.keymap.proofs.Laws.{slot_maps, slot_full}
use Rattle.keymap.proofs.map.KeyMap.insert.Goals as goal

pub returns-in_err-i-clause-full : goal.returns-in_err-i-clause-full
returns-in_err-i-clause-full g c e =
    slot_full g.K.Key.meaning g.K.Key.hashed c.args.self.now.entries.now (g.K.Key.meaning c.args.key) c.find.result c.find.ensures.found (search rules)

pub returns-clause-maps : goal.returns-clause-maps
returns-clause-maps g c =
    slot_maps g.K.Key.meaning g.K.Key.hashed c.args.self.now.entries.now c.args.key (Some c.in_ok-i.i) (search rules ∙ c.find.ensures.found) c.args.number
