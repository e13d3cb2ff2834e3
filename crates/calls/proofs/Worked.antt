-- "Sequences on both sides of each bound": the starred steps, as one table, under one statement. Numbers are as order 3 corrects them: "step 6's last call takes
-- number 2, step 7's second call 3, step 8's kills 4 and 5; step 10's second list takes 2, step 11's end 3, and its last next number is 4".
-- Assumes nothing.
use mathlib.Core.Path.{◌≡◌, refl}
use mathlib.Core.Bool.{true}
use mathlib.Core.List.{List, [], ◌∷◌, ◌++◌, map}
use lib.ListN.{drop}
use Rattle.table.specs.Table.{standing}
use Rattle.calls.specs.declared.Wanted.TheVariants.{Every}
use Rattle.calls.specs.Listing.{rows_of, listing}
use Rattle.calls.specs.Calls.{Open, Select, Start, Continue, End, Record, ListProcesses, Kill, fresh}
use Rattle.calls.proofs.Sequences.{P, Q, R, pairs, session, credential, class, user_yes, yes', no', Step, ◌⇒◌, Answered, after, computed}

-- "Where a step doesn't say, the session is 0, the claim is a user claim and the verdict is yes." Steps 1 to 10
abbrev listed : List Step
listed =
    -- 1.
    (Open (session 4) ⇒ 1)
    ∷ (Open (session 0) ⇒ 0)
    ∷ (Open (session 0) ⇒ 2)
    -- 2.
    ∷ (Start (session 0) (credential 0) P ⇒ 3)
    ∷ (Select (session 0) 0x20 ⇒ 4)
    ∷ (Select (session 0) 0x10 ⇒ 0)
    ∷ (Select (session 0) 0x10 ⇒ 0)
    -- 3.
    ∷ (Start (session 0) (credential 2) P ⇒ 5)
    ∷ (Start (session 0) (credential 0) P ⇒ 0)
    ∷ (Start (session 0) (credential 1) P ⇒ 12)
    -- 4.
    ∷ (Start (session 0) (credential 1) R ⇒ 0)
    ∷ (Start (session 0) (credential 1) P ⇒ 7)
    -- 5.
    ∷ (Record (session 0) (yes' 1 0) (class 4) ⇒ 0)
    ∷ (Record (session 0) (yes' 1 0) (class 4) ⇒ 9)
    -- 6.
    ∷ (Record (session 0) (no' 1 1) (class 4) ⇒ 8)
    ∷ (Record (session 0) (yes' 1 1) (class 5) ⇒ 10)
    ∷ (Record (session 0) (yes' 1 2) (class 4) ⇒ 0)
    -- 7.
    ∷ (Record (session 0) (yes' 1 3) (class 3) ⇒ 1)
    ∷ (Record (session 0) (yes' 1 3) (class 31) ⇒ 10)
    -- 8.
    ∷ (Kill (session 0) (yes' 1 4) P ⇒ 6)
    ∷ (Kill (session 0) (yes' 1 5) Q ⇒ 6)
    -- 9.
    ∷ (Kill (session 0) (yes' 0 0) R ⇒ 0)
    ∷ (Record (session 0) (yes' 1 2) (class 4) ⇒ 6)
    -- 10.
    ∷ (ListProcesses (session 0) (yes' 0 1) Every 54 ⇒ 15)
    ∷ (ListProcesses (session 0) (yes' 0 2) Every 55 ⇒ 0)
    ∷ []

-- step 11
abbrev continued : List Step
continued =
    -- 11.
    (End (session 0) (user_yes 0 3) true ⇒ 0)
    ∷ (Open (session 1) ⇒ 0)
    ∷ (Select (session 1) 0x10 ⇒ 0)
    ∷ (Continue (session 1) (credential 0) Q ⇒ 6)
    ∷ (Continue (session 1) (credential 0) P ⇒ 0)
    ∷ []

-- the numbers; the listing's bytes from offset 2 on, "01 00 00 00 00, then P"; the last next number, of the one process
pub record Worked : Type 0 where
  pub numbers-are : Answered (fresh pairs) (listed ++ continued)
  pub listing-is : drop 2 (listing (rows_of (after (fresh pairs) listed) Every)) ≡ 0x01 ∷ 0x00 ∷ 0x00 ∷ 0x00 ∷ 0x00 ∷ P.bytes
  pub next-is : map (λ p. p.next) (standing (after (fresh pairs) (listed ++ continued)).table) ≡ 4 ∷ []

pub worked : Worked
unfolding computed
worked = record { numbers-are = refl; listing-is = refl; next-is = refl }
