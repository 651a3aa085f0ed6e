use Rattle.profile.proofs.Notes.{told}
use Rattle.profile.proofs.profile.Profile.note.Goals as goal

pub returns-clause-told : goal.returns-clause-told
returns-clause-told g c = told g.P.SizeClasses.blocks c.args.self.now c.args.bytes c.args.count c.in_ok-item.item c.in_ok-item.ensures c.add.result c.add.new.self c.add.ensures
