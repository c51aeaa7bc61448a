use Rattle.std.proofs.Common.{◌+◌, subst, sym}
use Rattle.mls_design.proofs.Drawing.{Drew, drew_none, drew_more}
use Rattle.mls_design.proofs.words.drawn_pairs.Goals as goal

pub loop-n-init : goal.loop-n-init
loop-n-init c = drew_none c.args.seed c.in_ok-pairs.pairs.items c.new-generator.result c.in_ok-pairs.ensures.items c.new-generator.ensures

pub loop-n-preserved : goal.loop-n-preserved
loop-n-preserved c =
    subst (λ ps. Drew c.args.seed (c.loop-n._n + 1) ps c.next_word-b.new.self) (sym c.in_ok-push.ensures.items)
    (drew_more c.args.seed c.loop-n._n c.next_word-a.result c.next_word-b.result c.loop-n.pairs.items c.loop-n.generator c.next_word-a.new.self c.next_word-b.new.self c.loop-n.invariant c.next_word-a.ensures c.next_word-b.ensures)
