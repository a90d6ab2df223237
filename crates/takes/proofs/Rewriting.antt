-- An accepted file written anew, record by record.
use Prim.Native.Nat.{ℕ, ◌+◌, ◌-◌, ◌≤◌, ◌<◌}
use mathlib.Core.Path.{◌≡◌, refl, sym, ◌∙◌, ap, ap₂}
use mathlib.Core.Bool.{Bool, true, false, cond}
use mathlib.Core.List.{List, [], ◌∷◌, ◌++◌, append_assoc, append-nil}
use native.Mathlib.Omega.{arith}
use native.Mathlib.Nat.{add_assoc}
use lib.Dec.{eqb}
use lib.ListN.{length, take, drop, set, length-append, length-drop, drop_of_length-le}
use lib.Seq.{drop-drop, take-add, take_at, drop_at, take_all, length-take-le}
use borrow.Author.Tests.{lt-ltb, le-ltb, ne_eqb, eqb-true}
use Rattle.takes.specs.Reading.{length_byte}
use Rattle.takes.specs.Files.{head_length, size_byte, walk_from, Walk, file_number, judgement}
use Rattle.takes.specs.Writing.{WriteOutcome, write_outcome, record_bytes, write_head, write_record, rewrite_file}
use Rattle.takes.specs.RoundTrips.{Bytes}
use Rattle.takes.specs.declared.Record.{Record}
use Rattle.takes.specs.Files.{Judgement}
use Rattle.takes.specs.Writing.{Written}
use Rattle.takes.proofs.Numbers.{bytes_drop}
use Rattle.takes.proofs.Heads.{two_set, head-stored}
use Rattle.takes.proofs.Readings.{Whole, the_record, span}
use Rattle.takes.proofs.Walks.{Next}
use Rattle.takes.proofs.WholeFiles.{Head, head-accepted, head-bytes, file-accepted}
use Rattle.takes.proofs.RoundTrips.{read_back, read_low}

-- what the judgement says
module _ (file : List ℕ) (j : Judgement) (judged : j ≡ judgement file) where
  pub number-judged : j.number ≡ file_number file
  number-judged = ap (λ (x : Judgement). x.number) judged ∙ go (file_number file) (eqb (file_number file) 0) refl _ refl
    where
      go : (n : ℕ) (b : Bool) → eqb n 0 ≡ b → (good : Judgement) → good.number ≡ 0 → (cond b good (record { number = n; size = 0; count = 0 })).number ≡ n
      go n true e good z = z ∙ sym (eqb-true n 0 e)
      go n false e good z = refl

  pub size-judged : j.number ≡ 0 → j.size ≡ size_byte file
  size-judged z = let e : file_number file ≡ 0 = sym number-judged ∙ z in ap (λ (x : Judgement). x.size) judged ∙ rw e

-- the writer's answer for the record that some bytes start with: those bytes
rewritten : (bs out : List ℕ) → Bytes bs → Whole bs → length bs ≤ length out
    → write_record (the_record bs) out ≡ record { number = 0; count = span bs; slice = take (span bs) bs ++ drop (span bs) out }
unfolding write_record
rewritten bs out h w l =
    let b : record_bytes (the_record bs) ≡ take (span bs) bs = read_back bs h w in
    let n : length (take (span bs) bs) ≡ span bs = length-take-le (span bs) bs (omega (arith, w.enough, w.nonzero)) in
    rw (read_low bs w, b, n, le-ltb (length out) (span bs) (omega (arith, w.enough, w.nonzero)))

-- where the loop stands: the file's bytes up to the place, and after it what was there
pub record Rewriting (file out₀ out : List ℕ) (at : ℕ) : Type 0 where
  pub low : head_length ≤ at
  pub place : at ≤ length file
  pub room : length file ≤ length out₀
  pub same : length out ≡ length out₀
  pub accepted : (walk_from file at).number ≡ 0
  pub written : out ≡ take at file ++ drop at out₀

-- an accepted file, with room for it, whose head was written: what the loop starts from, and what it ends with
module _ (file out : List ℕ) (size : ℕ) (w : Written) (out₁ : List ℕ) (good : file_number file ≡ 0) (size_is : size ≡ size_byte file)
    (fits : length file ≤ length out) (head-written : write_outcome w out₁ ≡ write_head size out) where
  head : Head file
  head = head-accepted file (file-accepted file good).head

  room-for-head : head_length ≤ length out
  room-for-head = omega (arith, head.both)

  head-outcome : write_outcome w out₁ ≡ record { number = 0; count = head_length; slice = set (set out 0 1) 1 size }
  head-outcome = head-written ∙ sym (head-stored size out (omega (arith, head.low)) (omega (arith, head.high)) room-for-head)

  pub head-fits : w.number ≡ 0
  head-fits = ap (λ (x : WriteOutcome). x.number) head-outcome

  head-bytes-are : out₁ ≡ 1 ∷ size ∷ drop head_length out
  head-bytes-are = ap (λ (x : WriteOutcome). x.slice) head-outcome ∙ two_set out 1 size room-for-head

  head-is : out₁ ≡ take head_length file ++ drop head_length out
  head-is =
      head-bytes-are
      ∙ (ap (λ (n : ℕ). 1 ∷ n ∷ drop head_length out) size_is ∙ ap (λ (l : List ℕ). l ++ drop head_length out) (head-bytes file head))

  behind-head : drop head_length out₁ ≡ drop head_length out
  behind-head = ap (drop head_length) head-is ∙ drop_at (take head_length file) (drop head_length out) head_length (length-take-le head_length file head.both)

  pub rewriting-start : length out₁ ≡ length out → Rewriting file out₁ out₁ head_length
  rewriting-start n =
      record {
        low = omega arith;
        place = head.both;
        room = omega arith;
        same = refl;
        accepted = (file-accepted file good).records;
        written = head-is ∙ ap (λ (l : List ℕ). take head_length file ++ l) (sym behind-head);
      }

  -- past the head the slice is still as it was lent
  behind : (at : ℕ) → head_length ≤ at → drop at out₁ ≡ drop at out
  behind at h =
      let k : head_length + (at - head_length) ≡ at = omega arith in
      ap (λ (n : ℕ). drop n out₁) (sym k)
      ∙ (sym (drop-drop (at - head_length) head_length out₁)
      ∙ (ap (drop (at - head_length)) behind-head ∙ (drop-drop (at - head_length) head_length out ∙ ap (λ (n : ℕ). drop n out) k)))

  pub rewriting-end : (at : ℕ) (out₂ : List ℕ) → Rewriting file out₁ out₂ at → length file ≤ at
      → record { number = 0; count = at; slice = out₂ } ≡ rewrite_file file out
  unfolding rewrite_file
  rewriting-end at out₂ r g =
      let z : at ≡ length file = omega (arith, r.place) in
      let p : out₂ ≡ file ++ drop (length file) out =
      r.written ∙ (ap₂ ◌++◌ (take_all at file g) (behind at r.low) ∙ ap (λ (n : ℕ). file ++ drop n out) z) in
      rw (good, le-ltb (length out) (length file) fits, p, z)

-- a turn of the loop: the part from the place on is lent, and comes back with the record
module _ (file out₀ out : List ℕ) (at : ℕ) (r : Record) (next : ℕ) (w : Written) (part : List ℕ) (bytes : Bytes file) (l : Rewriting file out₀ out at)
    (n : Next file at r next) (record-written : write_outcome w part ≡ write_record r (take (length out - at) (drop at out))) where
  abbrev here : List ℕ
  here = drop at file

  front : length (take at file) ≡ at
  front = length-take-le at file l.place

  before-place : take at out ≡ take at file
  before-place = ap (take at) l.written ∙ take_at (take at file) (drop at out₀) at front

  from_place : drop at out ≡ drop at out₀
  from_place = ap (drop at) l.written ∙ drop_at (take at file) (drop at out₀) at front

  lent-all : take (length out - at) (drop at out) ≡ drop at out
  lent-all = take_all (length out - at) (drop at out) (omega (arith, length-drop at out))

  none-behind : drop (length out - at) (drop at out) ≡ []
  none-behind = let h : length (drop at out) ≤ length out - at = omega (arith, length-drop at out) in drop_of_length-le (drop at out) h

  part-outcome : write_outcome w part ≡ record { number = 0; count = span here; slice = take (span here) here ++ drop (span here) (drop at out) }
  part-outcome =
      let fits : length here ≤ length (drop at out) = omega (arith, length-drop at out, length-drop at file, l.room, l.same) in
      record-written
      ∙ (ap (write_record r) lent-all
      ∙ (ap (λ (x : Record). write_record x (drop at out)) n.the-record ∙ rewritten here (drop at out) (bytes_drop at file bytes) n.whole fits))

  pub record-fits : w.number ≡ 0
  record-fits = ap (λ (x : WriteOutcome). x.number) part-outcome

  part-is : part ≡ take (span here) here ++ drop (span here) (drop at out)
  part-is = ap (λ (x : WriteOutcome). x.slice) part-outcome

  next-is : at + span here ≡ next
  next-is = sym (n.next-place ∙ add_assoc at 1 (length_byte here))

  written_on : take at out ++ (part ++ drop (length out - at) (drop at out)) ≡ take next file ++ drop next out₀
  written_on =
      let joined = append_assoc (take at file) (take (span here) here) (drop (at + span here) out₀) in
      rw (none-behind, append-nil part, before-place, part-is, from_place, drop-drop (span here) at out₀, ← joined, ← take-add at (span here) file, next-is)

  pub rewriting-turn : Rewriting file out₀ (take at out ++ (part ++ drop (length out - at) (drop at out))) next
  rewriting-turn =
      let lengths : length (take next file) + length (drop next out₀) ≡ length out₀ =
      omega (arith, length-take-le next file n.inside, length-drop next out₀, l.room, n.inside) in
      record {
        low = omega (arith, l.low, n.beyond);
        place = n.inside;
        room = l.room;
        same = ap length written_on ∙ (length-append (take next file) (drop next out₀) ∙ lengths);
        accepted = sym (ap (λ (x : Walk). x.number) n.to-come) ∙ l.accepted;
        written = written_on;
      }

module _ (file out : List ℕ) where
  pub rewrite-refused : (n : ℕ) → n ≡ file_number file → (n ≡ 0 → ⊥) → record { number = n; count = 0; slice = out } ≡ rewrite_file file out
  unfolding rewrite_file
  rewrite-refused n e z = rw (← e, ne_eqb n 0 z, ne_eqb n 0 z)

  pub rewrite-short : file_number file ≡ 0 → length out < length file → record { number = 9; count = 0; slice = out } ≡ rewrite_file file out
  unfolding rewrite_file
  rewrite-short a l = rw (a, lt-ltb (length out) (length file) l)
