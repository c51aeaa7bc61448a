use Rattle.std.proofs.Common.{◌≡◌, ℕ, List, sym, subst, arith}
use Rattle.mls_slot.specs.Known.{IsHead}
use Rattle.mls_slot.proofs.heads.Heads.with.Goals as goal

pub returns : goal.returns
returns c = λ areas news known head same.
    let is : c.args.area ≡ 1 = omega arith in
    record {
      zero = subst (λ (b : List ℕ). IsHead b c.args.self.zero) (sym (same 0 (omega arith) (omega arith))) known.zero;
      one = subst (λ (a : ℕ). IsHead (news a) c.args.head) is head;
    }
