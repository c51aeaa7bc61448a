use Rattle.std.proofs.Common.{◌≡◌, Ok, subst}
use Rattle.mls_ckpt.specs.Checkpoints as checkpoints
use Rattle.mls_ckpt.specs.Places.{cursor_of}
use Rattle.mls_ledger.specs.MarkRows.{rows_of}
use Rattle.mls_assembly.specs.Held.{Held, key_at}
use Rattle.mls_assembly.specs.Saved.{key_saved, IsKeyTaken}
use Rattle.mls_assembly.proofs.TakingKeys.{adds_before, adds_key}
use Rattle.mls_assembly.proofs.pending.Pending.take_next.Goals as goal

pub returns-clause-before : goal.returns-clause-before
returns-clause-before c =
    adds_before c.args.self.now c.add.new.self (key_at c.args.least) c.in_ok-key.key c.in_ok-key.pieces c.requires
    (subst (λ (h : Held). IsKeyTaken h.sizes h.rank (key_at c.args.least) (c.in_ok-key.key, c.in_ok-key.pieces)) c.self.view_is c.in_ok-key.ensures.valid) c.in_ok-add.ensures.added

pub returns-clause-read : goal.returns-clause-read
returns-clause-read c =
    adds_key c.args.self.now c.add.new.self (rows_of c.args.marks.now) (key_at c.args.least) c.in_ok-key.key c.in_ok-key.pieces (cursor_of c.take_key.new.from) _ c.requires
    (subst (λ (h : Held). IsKeyTaken h.sizes h.rank (key_at c.args.least) (c.in_ok-key.key, c.in_ok-key.pieces)) c.self.view_is c.in_ok-key.ensures.valid) c.in_ok-add.ensures.added
    (subst (λ (h : Held). checkpoints.key_at h.sizes h.rank (rows_of c.args.marks.now) (key_at c.args.least) (cursor_of c.args.from.now) ≡ Ok (key_saved (c.in_ok-key.key, c.in_ok-key.pieces), cursor_of c.take_key.new.from)) c.self.view_is c.in_ok-key.ensures.read)
