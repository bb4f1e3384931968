-- A call with what comes from outside put in: the same acts, the same lines.
use Prim.Native.Nat.{ℕ, suc, ◌+◌, ◌*◌}
use mathlib.Core.Path.{◌≡◌, refl, sym, ◌∙◌, ap}
use mathlib.Core.List.{List, [], ◌∷◌, ◌++◌, map}
use lib.ListN.{length}
use Rattle.poly.specs.Counting.{All}
use Rattle.terms.specs.declared.Term.{Term}
use Rattle.terms.specs.Listed.{products_of}
use Rattle.runs.specs.Outline.{Kinds, CallOf, load_row_of, load_triple_of, deal, message, opening, linear, masks, collect, multiply, relation_masks_of, relation_finish_of, access, factoring, maskings, finishing, summing, factors, collects, multiplies, Act, Taking, nothing_taken, a_row_pack, a_triple_pack, a_number, a_record, two_records, takes, Given, Move, Outline, outline, moves, sends, acts_in, acts, EveryFrom, Every, Filling, filled}

-- ---- P of each of a list

from_all : {A : Type 0} (P : A → Type 0) (x : A) (xs : List A) → EveryFrom P x xs → All P (x ∷ xs)
from_all P x [] h = (h, tt)
from_all P x (y ∷ ys) h = (h.0, from_all P y ys h.1)

pub every_all : {A : Type 0} (P : A → Type 0) (xs : List A) → Every P xs → All P xs
every_all P [] h = tt
every_all P (x ∷ xs) h = from_all P x xs h

all_from : {A : Type 0} (P : A → Type 0) (x : A) (xs : List A) → All P (x ∷ xs) → EveryFrom P x xs
all_from P x [] h = h.0
all_from P x (y ∷ ys) h = (h.0, all_from P y ys h.1)

pub all_every : {A : Type 0} (P : A → Type 0) (xs : List A) → All P xs → Every P xs
all_every P [] h = tt
all_every P (x ∷ xs) h = all_from P x xs h

-- ---- put in

module _ {K K' : Kinds} (f : Filling K K') where
  abbrev pub given_by : (t : Taking) → Given K t → Given K' t
  given_by nothing_taken x = tt
  given_by (a_row_pack r) x = f.row x
  given_by (a_triple_pack r) x = f.triple x
  given_by (a_number r) x = f.number r x
  given_by (a_record r) x = f.blocks x
  given_by (two_records r) x = (f.blocks x.0, f.blocks x.1)

  abbrev pub filled_move : Move K → Move K'
  filled_move m = (m.0, given_by (takes m.0) m.1)

  -- the acts of a relation's two calls
  factoring_filled : (ts : List Term) → factoring K' ts ≡ map filled_move (factoring K ts)
  factoring_filled [] = refl
  factoring_filled (t ∷ ts) = ap (λ (ms : List (Move K')). (factors t.row t.second t.first, tt) ∷ ms) (factoring_filled ts)

  summing_filled : (r : ℕ) (ts : List Term) → summing K' r ts ≡ map filled_move (summing K r ts)
  summing_filled r [] = refl
  summing_filled r (t ∷ ts) = refl

  finishing_filled : (m : ℕ) (blocks : K.Record) (k : ℕ) (ts : List Term) (r : ℕ) (all : List Term)
      → finishing K' m (f.blocks blocks) k ts ++ summing K' r all ≡ map filled_move (finishing K m blocks k ts ++ summing K r all)
  finishing_filled m blocks k [] r all = summing_filled r all
  finishing_filled m blocks k (t ∷ ts) r all =
      let ea = sym (f.parts m (2 * k) blocks) in
      let eb = sym (f.parts m (2 * k + 1) blocks) in
      λ j. (collects t.first, (ea j, eb j)) ∷ (multiplies t.first, tt) ∷ finishing_filled m blocks (suc k) ts r all j

  pub outline_filled : (c : CallOf K)
      → outline (filled f c) ≡ record { moves = map filled_move (moves c); sends = sends c; heard = map f.heard (outline c).heard }
  outline_filled (load_row_of x) = refl
  outline_filled (load_triple_of x) = refl
  outline_filled (deal x) = refl
  outline_filled (message x) = refl
  outline_filled (opening x) = refl
  outline_filled (linear x) = refl
  outline_filled (masks x) = refl
  outline_filled (collect x) = refl
  outline_filled (multiply x) = refl
  outline_filled (relation_masks_of x) =
      ap (λ (ms : List (Move K')). record { moves = ms; sends = maskings (products_of x.terms); heard = [] }) (factoring_filled (products_of x.terms))
  outline_filled (relation_finish_of x) =
      ap (λ (ms : List (Move K')). record { moves = ms; sends = []; heard = [] })
      (finishing_filled (2 * length (products_of x.terms)) x.blocks 0 (products_of x.terms) x.r x.terms)
  outline_filled (access x) = refl

  pub moves_filled : (c : CallOf K) → moves (filled f c) ≡ map filled_move (moves c)
  moves_filled c = ap (λ (o : Outline K'). o.moves) (outline_filled c)

  pub sends_filled : (c : CallOf K) → sends (filled f c) ≡ sends c
  sends_filled c = ap (λ (o : Outline K'). o.sends) (outline_filled c)

  acts_in_lem : (ms : List (Move K)) → acts_in K' (map filled_move ms) ≡ acts_in K ms
  acts_in_lem [] = refl
  acts_in_lem (m ∷ ms) = ap (λ (todo : List Act). m.0 ∷ todo) (acts_in_lem ms)

  pub acts_filled : (c : CallOf K) → acts (filled f c) ≡ acts c
  acts_filled c = ap (λ (ms : List (Move K')). acts_in K' ms) (moves_filled c) ∙ acts_in_lem (moves c)
