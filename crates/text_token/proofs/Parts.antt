-- Parts of a text whose places may lie past its end. Assumes nothing.
use Prim.Native.Nat.{ℕ, ◌-◌, ◌≤◌}
use mathlib.Core.List.{List, []}
use mathlib.Core.Path.{◌≡◌, sym, ap, ◌∙◌}
use native.Mathlib.Omega.{arith}
use lib.ListN.{length, take, drop, length-drop, drop_of_length-le}
use lib.Seq.{take_all, take-nil}
use Rattle.text_token.specs.Tokens.{bytes_of}

-- from a place up to none behind it
pub bytes_of-none : (text : List ℕ) (start end : ℕ) → end ≤ start → [] ≡ bytes_of text start end
bytes_of-none text start end h =
    let e : end - start ≡ 0 = omega arith in
    sym (ap (λ (n : ℕ). take n (drop start text)) e)

-- from a place past the end
pub bytes_of-past : (text : List ℕ) (start end : ℕ) → length text ≤ start → [] ≡ bytes_of text start end
bytes_of-past text start end h =
    sym (ap (take (end - start)) (drop_of_length-le text h) ∙ take-nil (end - start))

-- up to a place past the end
pub bytes_of-rest : (text : List ℕ) (start end : ℕ) → length text ≤ end → take (length text - start) (drop start text) ≡ bytes_of text start end
bytes_of-rest text start end h =
    let rest = drop start text in
    let n = length-drop start text in
    take_all (length text - start) rest (omega arith) ∙ sym (take_all (end - start) rest (omega arith))
