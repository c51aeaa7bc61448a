use Rattle.mls_tape.proofs.tape.Tape.lane_rank.Goals as goal

pub returns : goal.returns
returns c = λ l there. (c.entry.ensures l there).rank
