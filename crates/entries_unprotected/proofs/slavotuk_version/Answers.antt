use mathlib.Core.Path.{refl}
use Rattle.entries_unprotected.specs.Version.{version_number, library_version}
use Rattle.entries_unprotected.proofs.slavotuk_version.Goals as goal

pub returns : goal.returns
returns c = unfold library_version version_number in refl
