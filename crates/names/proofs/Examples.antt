-- The names of document 01's sequences: "P is 16 zero bytes then 32 of 0x11; Q is 16 zero bytes then 32 of 0x22; R is P with its last byte 0x12."
-- Assumes nothing.
use Rattle.std.proofs.Common.{ℕ, List, [], ◌∷◌, ◌++◌, replicate}

abbrev pub P : List ℕ
P = replicate 16 0 ++ replicate 32 0x11

abbrev pub Q : List ℕ
Q = replicate 16 0 ++ replicate 32 0x22

abbrev pub R : List ℕ
R = replicate 16 0 ++ (replicate 31 0x11 ++ (0x12 ∷ []))
