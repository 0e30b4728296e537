-- Pieces of a line, one after the other.
use Rattle.std.proofs.Common.{◌≡◌, ℕ, List, ◌++◌, append_assoc}

pub line_of : (m l a c v n e t0 t1 t2 t3 t4 t5 : List ℕ) → t0 ≡ m ++ l → t1 ≡ t0 ++ a → t2 ≡ t1 ++ c → t3 ≡ t2 ++ v →
    t4 ≡ t3 ++ n → t5 ≡ t4 ++ e → t5 ≡ m ++ (l ++ (a ++ (c ++ (v ++ (n ++ e)))))
line_of m l a c v n e t0 t1 t2 t3 t4 t5 e0 e1 e2 e3 e4 e5 = rw (e5, e4, e3, e2, e1, e0) (simp append_assoc)
