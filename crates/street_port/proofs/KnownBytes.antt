-- Known bytes that are written and read part by part.
use Rattle.std.proofs.Common.{arith, ◌≡◌, ℕ, ◌+◌, ◌-◌, ◌≤◌, List, ◌++◌, None, Some, sym, ap, subst, ◌∙◌, append_assoc, length, take, drop, length-drop}
use Rattle.std.proofs.Math.Seq.{take-add, take_all, drop-drop}
use Rattle.std.specs.declared.option.Option.{Option}
use Rattle.std.specs.Io.KnownBytes.{Appends, Consumes}

-- one part was written, and then another
pub appends_on : (a b c : Option (List ℕ)) (bs cs : List ℕ) → Appends a b bs → Appends b c cs → Appends a c (bs ++ cs)
appends_on None b c bs cs p q = tt
appends_on (Some x) None c bs cs p q = absurd p
appends_on (Some x) (Some y) None bs cs p q = absurd q
appends_on (Some x) (Some y) (Some z) bs cs p q = q ∙ ap (λ l. l ++ cs) p ∙ append_assoc x bs cs

-- one part was read, and then another
pub consumes_on : (a b c : Option (List ℕ)) (bs cs : List ℕ) → Consumes a b bs → Consumes b c cs → Consumes a c (bs ++ cs)
consumes_on None b c bs cs p q = tt
consumes_on (Some x) None c bs cs p q = absurd p
consumes_on (Some x) (Some y) None bs cs p q = absurd q
consumes_on (Some x) (Some y) (Some z) bs cs p q = p ∙ ap (λ l. bs ++ l) q ∙ sym (append_assoc bs cs z)

-- the text's end is left to write, and more of it was written
pub written_on : (a b c : Option (List ℕ)) (k : ℕ) (left text : List ℕ) → length left ≤ length text → left ≡ drop (length text - length left) text
    → k ≤ length left → Appends a b (take (length text - length left) text) → Appends b c (take k left)
    → (length (take (length left - k) (drop k left)) ≤ length text)
    × (take (length left - k) (drop k left) ≡ drop (length text - length (take (length left - k) (drop k left))) text)
    × Appends a c (take (length text - length (take (length left - k) (drop k left))) text)
written_on a b c k left text e w h p q =
    let n : ℕ = length text - length left in
    let s : length (drop k left) ≡ length left - k = length-drop k left in
    let r : take (length left - k) (drop k left) ≡ drop k left = take_all (length left - k) (drop k left) (omega (arith, s)) in
    let j : length text - length (drop k left) ≡ n + k = omega (arith, s) in
    let d : drop k left ≡ drop (n + k) text = ap (drop k) w ∙ drop-drop k n text in
    let t : take n text ++ take k left ≡ take (length text - length (drop k left)) text =
    ap (λ z. take n text ++ take k z) w ∙ sym (take-add n k text) ∙ ap (λ z. take z text) (sym j) in
    rw r (omega (arith, s), d ∙ ap (λ z. drop z text) (sym j), subst (Appends a c) t (appends_on a b c _ _ p q))
