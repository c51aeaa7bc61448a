use Rattle.mls_held.proofs.Beginnings.{begins_with, taken_on, refused_on}
use Rattle.mls_held.proofs.laws.beginnings_go_on.Goals as goal

pub returns-clause-begins : goal.returns-clause-begins
returns-clause-begins g c = λ book none unsaved. begins_with {U = g.K.Keeper} book none unsaved

pub returns-clause-taken : goal.returns-clause-taken
returns-clause-taken g c = λ start old new event place o t b. taken_on {R = g.F.RowFold} {U = g.K.Keeper} start old new event place o t b

pub returns-clause-refused : goal.returns-clause-refused
returns-clause-refused g c = λ start old new event fault r b. refused_on {R = g.F.RowFold} {U = g.K.Keeper} start old new event fault r b
