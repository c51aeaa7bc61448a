use Rattle.std.proofs.Common.{ap, subst}
use Rattle.mls_frame.specs.Views.{AreBytes}
use Rattle.mls_frame.specs.Feeding.{Fed}
use Rattle.mls_frame.proofs.Places.{AreBytes-drop}
use Rattle.mls_frame.proofs.feeder.Feeder.valid.Goals as goal

pub returns-clause-bytes : goal.returns-clause-bytes
returns-clause-bytes c =
    let all = subst AreBytes c.as_slice.ensures.value c.are_bytes.ensures in
    subst AreBytes (ap (λ (fed : Fed). fed.rest) c.self.view_is) (AreBytes-drop c.self.inside.start c.self.inside.bytes.items all)
