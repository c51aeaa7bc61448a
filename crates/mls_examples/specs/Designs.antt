-- Two small studies of one parameter that has all values of 32 bits.
use Rattle.std.specs.Prelude.{[], ◌∷◌, None, ℤ, pos, negsuc, codes}
use Rattle.mls_model.specs.declared.studies.Statistic.TheVariants.{Power, Sobol}
use Rattle.mls_model.specs.Studies.{Study}
use Rattle.mls_examples.specs.Small.{one_cell}

abbrev pub wide_study : ℤ → ℤ → Study
wide_study low high = record { sizes = one_cell 2; seed = 42; field_names = None; statistics = Power ∷ Sobol ∷ []; parameters = record { name = codes "x"; low = low; high = high } ∷ [] }

abbrev pub designed_study : Study
designed_study = wide_study (pos 0) (pos 4294967295)

abbrev pub negative_study : Study
negative_study = wide_study (negsuc 4294967295) (negsuc 0)
