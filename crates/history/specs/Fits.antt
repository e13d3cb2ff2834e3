-- What the types of a call's parameters tell of it: "a name of 48 bytes", words of 32 bits. The calls that the entries make are such.
use Rattle.std.specs.Prelude.{◌≡◌, List, length}
use Rattle.lists.specs.Each.{Each}
use Rattle.names.specs.Names.{name_length}
use Rattle.names.specs.declared.Name.{Name}
use Rattle.module_state.specs.Module.{credential_count}
use Rattle.module_state.specs.declared.Grants.{Grants}
use Rattle.module_rules.specs.Facts.{AreWords}
use Rattle.calls.specs.Calls.{Call, Open, Close, Drop, Select, Start, Continue, Elevate, End, Record, ListProcesses, Kill, SetWord}

abbrev pub IsWhole : Name → Type 0
IsWhole name = length name.bytes ≡ name_length

abbrev pub Fits : Call → Type 0
Fits (Open s) = Unit {0}
Fits (Close s) = Unit {0}
Fits (Select s byte) = Unit {0}
Fits (Start s c name) = IsWhole name
Fits (Continue s c name) = IsWhole name
Fits (Elevate s c name verdict) = IsWhole name
Fits (Drop s) = Unit {0}
Fits (End s u keep) = Unit {0}
Fits (Record s claim class) = Unit {0}
Fits (ListProcesses s claim wanted room) = Unit {0}
Fits (Kill s claim name) = IsWhole name
Fits (SetWord s claim c words) = AreWords words

-- "A fresh module is made from eight such pairs"
pub record Eight (pairs : List Grants) : Type 0 where
  pub many : length pairs ≡ credential_count
  pub words : Each (λ g. AreWords g.words) pairs
