use Rattle.std.proofs.Common.{refl}
use Rattle.mls_server.proofs.server.save_last.Goals as goal

pub returns-in-None-last_saves-clause-saved : goal.returns-in-None-last_saves-clause-saved
returns-in-None-last_saves-clause-saved g c = λ none. c.in-None-last_saves.ensures.kept refl (c.requires.clean c.in-None.is)
