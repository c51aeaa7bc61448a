use Rattle.std.proofs.Common.{refl, ap, ◌∙◌, subst, inr, ◌≡◌, ℕ, ◌+◌, ◌*◌, []}
use Rattle.std.specs.Prelude.{length}
use Rattle.mls_model.specs.declared.outcomes.Counts.{Counts}
use Rattle.mls_ckpt.specs.Spellings.{counts_list, head_text}
use Rattle.mls_rank.specs.Saving.{state_of}
use Rattle.mls_resume.specs.Opening.{PassesWith}
use Rattle.mls_resume.proofs.checking.check_opening.Goals as goal

pub returns-in-Some-clause-err : goal.returns-in-Some-clause-err
returns-in-Some-clause-err c =
    let s = c.args.shape.now in
    let state = state_of c.in-Ok.core in
    let spells = c.saved_states_are_spelled.ensures s c.args.rank c.args.bytes.now state c.valid.ensures c.are_bytes.ensures c.in-Ok.ensures.read in
    let version : c.version_of.result ≡ spells.version = c.version_of.ensures s c.args.rank spells.version state spells.is_read spells.spelled in
    inr (
      refl,
      record {
        state = state;
        read = c.in-Ok.ensures.read;
        version = spells.version;
        is_read = spells.is_read;
        spelled = spells.spelled;
        count = c.in-Some.count;
        passes = subst (λ (n : Counts). PassesWith (counts_list n) c.in-Some.count) c.counts-counts.ensures c.in-Some.ensures.some;
        stands = ap (λ n. n + 8 * c.in-Some.count) (c.head_size.ensures.value c.args.rank ∙ ap (λ (v : ℕ). length (head_text v s c.args.rank [])) version);
      },
    )
