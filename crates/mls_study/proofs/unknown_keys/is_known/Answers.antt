use Rattle.std.proofs.Common.{◌∙◌, ap, sym}
use Rattle.mls_study.specs.UnknownKeys.{known_keys, is_known_key}
use Rattle.mls_study.specs.declared.unknown_keys.TableKind.{TableKind}
use Rattle.mls_study.specs.declared.unknown_keys.TableKind.TheVariants.{Study, Parameter}
use Rattle.mls_study.proofs.Texts.{any_comm}
use Rattle.mls_study.proofs.unknown_keys.is_known.Goals as goal

pub returns-in-Study : goal.returns-in-Study
returns-in-Study c = c.contains.ensures.value ∙ any_comm c.args.key.now (known_keys Study) ∙ ap (λ (k : TableKind). is_known_key k c.args.key.now) (sym c.in-Study.is)

pub returns-in-Parameter : goal.returns-in-Parameter
returns-in-Parameter c = c.contains-in-Parameter.ensures.value ∙ any_comm c.args.key.now (known_keys Parameter) ∙ ap (λ (k : TableKind). is_known_key k c.args.key.now) (sym c.in-Parameter.is)
