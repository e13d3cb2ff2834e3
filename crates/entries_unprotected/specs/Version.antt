-- The library's version, major.minor.patch, as one number.
use Rattle.std.specs.Prelude.{ℕ, ◌+◌, ◌*◌}

unfoldable pub version_number : ℕ → ℕ → ℕ → ℕ
version_number major minor patch = major * 65536 + minor * 256 + patch

unfoldable pub library_version : ℕ
library_version = version_number 4 1 0
