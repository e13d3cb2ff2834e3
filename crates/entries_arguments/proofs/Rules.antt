-- The laws that close the goals of this crate's functions. Assumes nothing.
use Rattle.std.proofs.Common.{◌≡◌, ◌∙◌, Bool, ◌&&◌, rules as std_rules}
use Rattle.rows.proofs.Chunks.{all_every}

-- two tests that are asked together
pub fine-both : {x a b c d : Bool} → x ≡ a && b → a ≡ c → b ≡ d → x ≡ c && d
fine-both e f g = e ∙ rw (f, g)

pub ruleset rules = (std_rules, all_every)
