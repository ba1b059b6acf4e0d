use Rattle.unit.proofs.Tallies.{reports_of_lived}
use Rattle.unit.proofs.units.Sealed.report.Goals as goal

pub returns-clause-day : goal.returns-clause-day
returns-clause-day g c = λ h l. reports_of_lived c.from.ensures l
