-- What a function that reads a part of a study file answers.
use Rattle.std.specs.Prelude.{◌≡◌, Result, Ok, Err}
use Rattle.mls_study.specs.declared.fault.StudyFault.{StudyFault}
use Rattle.mls_study.specs.declared.fault.StudyFault.TheVariants.{Memory}

-- Steps one after another. The first fault ends them.
infixl 10 ◌>>=◌
abbrev pub ◌>>=◌ : {A B : Type 0} → Result A StudyFault → (A → Result B StudyFault) → Result B StudyFault
(Ok x) >>= f = f x
(Err e) >>= f = Err e

abbrev pub IsMemory : StudyFault → Type 0
IsMemory f = f ≡ Memory

-- What was answered, seen by view, is what is read, unless memory ran out.
abbrev pub Gives : {A B : Type 0} → (A → B) → Result A StudyFault → Result B StudyFault → Type 0
Gives view (Ok x) read = read ≡ Ok (view x)
Gives view (Err f) read = ¬ IsMemory f → read ≡ Err f
