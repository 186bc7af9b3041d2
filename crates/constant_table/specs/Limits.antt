-- The limits of a pool (JVMS 4.1, 4.4.7).
use Rattle.std.specs.Prelude.{◌+◌, List, length, Result}
use Rattle.jv_base.specs.Outcome.{◌>>=◌}
use Rattle.class_model.specs.declared.limit.WriteLimit.{WriteLimit}
use Rattle.class_model.specs.declared.limit.WriteLimit.TheVariants.{PoolFull}
use Rattle.class_model.specs.declared.constant.PoolConstant.{PoolConstant}
use Rattle.class_model.specs.WriteLimits.{fits_u2, first_of, text_fits}

-- its count, and then its texts in their order (JVMS 4.1, 4.4.7)
abbrev pub pool_fits : List PoolConstant → Result (Unit {0}) WriteLimit
pool_fits pool = fits_u2 (λ n. PoolFull n) (length pool + 1) >>= (λ entries. first_of text_fits pool)
