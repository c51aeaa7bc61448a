use Rattle.std.proofs.Common.{◌≡◌, List, ℕ, ◌++◌, take, drop, sym, ap, subst, ◌∙◌}
use Rattle.mls_model.specs.Frames.{Spells, spelling, sight}
use Rattle.mls_poll.specs.Wholes.{frame_in}
use Rattle.mls_poll.specs.Looks.{SeesWhole}
use Rattle.mls_poll.proofs.Cutting.{cut}
use Rattle.mls_poll.proofs.stream.cut_off.Goals as goal

pub split_at-requires : goal.split_at-requires
split_at-requires c =
    let k = cut c.args.used c.as_slice-all.result.now c.are_bytes.ensures (subst (λ (xs : List ℕ). SeesWhole c.args.used (sight xs)) (sym c.as_slice-all.ensures.value) c.requires) in
    k.within

pub of-requires : goal.of-requires
of-requires c =
    let k = cut c.args.used c.as_slice-all.result.now c.are_bytes.ensures (subst (λ (xs : List ℕ). SeesWhole c.args.used (sight xs)) (sym c.as_slice-all.ensures.value) c.requires) in
    let is : c.add.new.out.items ≡ take c.args.used c.as_slice-all.result.now = c.add.ensures ∙ ap (λ (xs : List ℕ). xs ++ c.split_at.result.0.now) c.in_ok-bytes.ensures.items ∙ c.split_at.ensures.front in
    subst (λ (xs : List ℕ). Spells (frame_in xs) xs) (sym is) k.spells

pub returns-clause-cuts : goal.returns-clause-cuts
returns-clause-cuts c =
    let k = cut c.args.used c.as_slice-all.result.now c.are_bytes.ensures (subst (λ (xs : List ℕ). SeesWhole c.args.used (sight xs)) (sym c.as_slice-all.ensures.value) c.requires) in
    let is : c.add.new.out.items ≡ take c.args.used c.as_slice-all.result.now = c.add.ensures ∙ ap (λ (xs : List ℕ). xs ++ c.split_at.result.0.now) c.in_ok-bytes.ensures.items ∙ c.split_at.ensures.front in
    let frame : c.of.result ≡ frame_in (take c.args.used c.as_slice-all.result.now) = c.of.ensures ∙ ap (λ (xs : List ℕ). frame_in xs) is in
    rw (frame, c.drop_front.ensures) (record {
      fits = k.spells.0;
      split = subst (λ (xs : List ℕ). xs ≡ spelling (frame_in (take c.args.used c.as_slice-all.result.now)) ++ drop c.args.used xs) c.as_slice-all.ensures.value k.split;
    })
