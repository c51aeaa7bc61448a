-- What the faults of a take say.
use Rattle.mls_ckpt.specs.declared.faults.CkptWhy.TheVariants as why
use Rattle.mls_ckpt.specs.declared.faults.TakeFault.{TakeFault}
use Rattle.mls_ckpt.specs.declared.faults.TakeFault.TheVariants.{Short, Range, Trailing}
use Rattle.mls_ckpt.specs.declared.faults.RecoverFault.{RecoverFault}
use Rattle.mls_ckpt.specs.declared.faults.RecoverFault.TheVariants.{Bad}

-- the same fault of a whole list of bytes
abbrev pub bad_of : TakeFault → RecoverFault
bad_of (Short at) = Bad at why.Short
bad_of (Range at) = Bad at why.Range
bad_of (Trailing at) = Bad at why.Trailing
