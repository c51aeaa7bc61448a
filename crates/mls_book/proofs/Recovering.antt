-- What a recovered core goes on from.
use Rattle.std.proofs.Common.{◌≡◌, ℕ, Option, None, Some, Err, sym, ◌∙◌, subst}
use Rattle.std.specs.Prelude.{IfSome}
use Rattle.std.specs.Option.{option_map}
use Rattle.std.specs.Global.{Vec}
use Rattle.mls_model.specs.Studies.{Sizes}
use Rattle.mls_ckpt.specs.declared.faults.CkptWhy.{CkptWhy}
use Rattle.mls_ckpt.specs.declared.faults.RecoverFault.{RecoverFault}
use Rattle.mls_ckpt.specs.declared.faults.RecoverFault.TheVariants.{Bad, Memory}
use Rattle.mls_field.specs.declared.fold.RowFold.{Ghosts}
use Rattle.mls_rank.specs.declared.rank_core.RankCore.{RankCore}
use Rattle.mls_rank.specs.Saving.{SpellsCore, RecoversSaved}
use Rattle.mls_book.specs.Backups.{Begins, ResumesFrom}

-- a fact on sizes and a rank, at equal ones
pub at_equal : (P : Sizes → ℕ → Type 0) (s s' : Sizes) (r r' : ℕ) → s ≡ s' → r ≡ r' → P s r → P s' r'
at_equal P s s' r r' s_same r_same h = subst (λ (z : Sizes). P z r') s_same (subst (λ (q : ℕ). P s q) r_same h)

pub begins_some : {F : Type 0} {T : Ghosts F} (s : Sizes) (rank : ℕ) (opening : Option (Vec ℕ)) (bytes : Vec ℕ) (core : RankCore F T) → opening ≡ Some bytes → ResumesFrom s rank bytes.items core
    → Begins s rank (option_map (λ (bytes : Vec ℕ). bytes.items) opening) core
begins_some s rank opening bytes core is from = subst (λ (o : Option (Vec ℕ)). Begins s rank (option_map (λ (bytes : Vec ℕ). bytes.items) o) core) (sym is) from

-- bytes that are refused spell no core
pub none_spelled : (F : Type 0) (T : Ghosts F) (s : Sizes) (rank : ℕ) (given : Option (Vec ℕ)) (fault : RecoverFault) (at : ℕ) (why : CkptWhy) → fault ≡ Bad at why
    → IfSome given (λ (bytes : Vec ℕ). RecoversSaved {F = F} {T = T} s rank bytes.items (Err fault)) → IfSome given (λ (bytes : Vec ℕ). (saved : RankCore F T) → SpellsCore s rank bytes.items saved → ⊥)
none_spelled F T s rank None fault at why is h = tt
none_spelled F T s rank (Some bytes) fault at why is h = λ saved spells. let clash : Bad at why ≡ Memory = sym is ∙ h saved spells in absurd cc
