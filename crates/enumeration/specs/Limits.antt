-- A value for each limitation.
use Rattle.enumeration.specs.declared.enumerator.PerLimit.{PerLimit}
use Rattle.enumeration.specs.declared.enumerator.Which.{Which}
use Rattle.enumeration.specs.declared.enumerator.Which.TheVariants.{Starts, Hours, Mwh}

abbrev pub for_limit : {A : Type 0} → PerLimit A → Which → A
for_limit limits Starts = limits.starts
for_limit limits Hours = limits.hours
for_limit limits Mwh = limits.mwh

-- with another value for one limitation
abbrev pub with_limit : {A : Type 0} → PerLimit A → Which → A → PerLimit A
with_limit limits Starts value = record limits { starts = value }
with_limit limits Hours value = record limits { hours = value }
with_limit limits Mwh value = record limits { mwh = value }
