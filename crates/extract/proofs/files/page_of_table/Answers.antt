use Rattle.extract.proofs.files.page_of_table.Goals as goal

pub returns : goal.returns
returns g c = let h = rw c.new.ensures.volume at c.page_of_field.ensures in rw c.new.ensures.level at h
