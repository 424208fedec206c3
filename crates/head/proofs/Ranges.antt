-- What a state in range has.
use Prim.Native.Nat.{ℕ, zero, suc, ◌+◌, ◌*◌, ◌/◌, ◌%◌, ◌<◌, ◌≤◌}
use mathlib.Core.Bool.{Bool, true, false, cond, ◌||◌, or-false, and-eq-true_iff}
use mathlib.Core.Path.{◌≡◌, refl, sym, ◌∙◌}
use native.Mathlib.Omega.{arith}
use lib.Dec.{eqb, leb}
use borrow.Author.Tests.{eqb-true, ltb-true, leb-true, le-leb}
use Rattle.endian.proofs.Cases.{impossible}
use Rattle.framing.specs.Header.{Reading, good, header_at, length_of, body_len}
use Rattle.framing.proofs.Headers.{by_bits, body_small}
use Rattle.protocol.specs.Commands.{length_ok, blocks_for, place_of, count_in}
use Rattle.head.specs.State.{is_whole, incoming_ok, loading_ok, progress_in, progress_ok, in_range}
use Rattle.head.specs.Begin.{fits}
use Rattle.head.specs.Act.{asks_name, asks_udi, gives_load, gives_block, halts, request_in, request_waiting}
use Rattle.head.specs.declared.Phase.{Phase}
use Rattle.head.specs.declared.Phase.TheVariants.{Waiting, Loading, Started, Stopped}
use Rattle.head.specs.declared.Incoming.{Incoming}
use Rattle.head.specs.declared.Progress.{Progress}
use Rattle.head.specs.declared.State.{State}

-- a test that is both true and false
pub never : {A : Type 0} → ◌≡◌ {A = Bool} true false → A
never e = impossible cc

-- by cases on a test, each with what the test says
pub by_test : {A : Type 0} (P : A → Type 0) (t : Bool) (x y : A) → (t ≡ true → P x) → (t ≡ false → P y) → P (cond t x y)
by_test P true x y f g = f refl
by_test P false x y f g = g refl

-- a body has at least one byte
some_length : (c : ℕ) → c < 4 → 1 ≤ length_of c
some_length zero h = omega arith
some_length (suc zero) h = omega arith
some_length (suc (suc zero)) h = omega arith
some_length (suc (suc (suc zero))) h = omega arith
some_length (suc (suc (suc (suc c)))) h = absurd (omega arith)

pub length_some : (h id ep n : ℕ) → header_at h ≡ good id ep n → 1 ≤ n
length_some h id ep n =
    by_bits h (λ (r : Reading). r ≡ good id ep n → 1 ≤ n)
    (λ p q e. let l : length_of (h / 1 % 4) ≡ n = cc in let o = some_length (h / 1 % 4) (omega arith) in omega arith)
    (λ g e. impossible cc)

-- how many bytes of a frame have come, where one is being gathered and is not whole
pub incoming_got : (i : Incoming) → incoming_ok i ≡ true → is_whole i ≡ false → (i.got ≡ 0 → ⊥)
    → (1 ≤ i.got) × (i.got ≤ body_len (header_at i.header)) × (i.got ≤ 128)
incoming_got i e w n =
    let s = body_small i.header in
    let l : i.got ≤ body_len (header_at i.header) = go (eqb i.got 0) (is_whole i) refl w e in
    (omega (arith, n), l, omega arith)
  where
    go : (t u : Bool) → eqb i.got 0 ≡ t → u ≡ false → cond t (eqb i.header 0) (leb i.got (body_len (header_at i.header)) || u) ≡ true
        → i.got ≤ body_len (header_at i.header)
    go true u p o q = absurd (n (eqb-true i.got 0 p))
    go false true p o q = never o
    go false false p o q = leb-true i.got (body_len (header_at i.header)) (sym (or-false (leb i.got (body_len (header_at i.header)))) ∙ q)

-- the size of a program in flash
pub fit_facts : (n slot m : ℕ) → fits n slot m ≡ true → (1 ≤ n) × (n ≤ slot) × (n ≤ m)
fit_facts n slot m e =
    let a = (and-eq-true_iff (leb 1 n) _).0 e in
    let b = (and-eq-true_iff (leb n slot) _).0 a.1 in
    (leb-true 1 n a.0, leb-true n slot b.0, leb-true n m b.1)

-- the numbers of a load
pub record Loaded (p : Progress) (m : ℕ) : Type 0 where
  pub some : 1 ≤ p.size
  pub fits : p.size ≤ m
  pub due : p.block < blocks_for p.size

pub loading_facts : (p : Progress) (m : ℕ) → loading_ok p m ≡ true → Loaded p m
loading_facts p m e =
    let a = (and-eq-true_iff (leb 1 p.size) _).0 e in
    let b = (and-eq-true_iff (leb p.size m) _).0 a.1 in
    record {
      some = leb-true 1 p.size a.0;
      fits = leb-true p.size m b.0;
      due = ltb-true p.block (blocks_for p.size) b.1;
    }

-- a block's bytes are within the program
pub block_within : (p : Progress) (m : ℕ) → Loaded p m → place_of p.block + count_in p.size p.block ≤ m
block_within p m l =
    let k : p.block < (p.size + 126) / 127 = l.due in
    let f : p.size ≤ m = l.fits in
    let d : (p.size + 126) / 127 * 127 ≤ p.size + 126 = omega arith in
    omega arith

-- only while loading is a block asked for
pub no_block : (c n : ℕ) → request_waiting c n ≡ gives_block → ⊥
no_block c n = go (eqb c 0x01) (eqb c 0x08) (eqb c 0x03) (eqb n 1) (eqb n 128)
  where
    go : (x y z t u : Bool)
        → cond x (cond t asks_name (halts 24)) (cond y (cond t asks_udi (halts 24)) (cond z (cond u gives_load (halts 24)) (halts 23))) ≡ gives_block
        → ⊥
    go true y z true u e = impossible cc
    go true y z false u e = impossible cc
    go false true z true u e = impossible cc
    go false true z false u e = impossible cc
    go false false true t true e = impossible cc
    go false false true t false e = impossible cc
    go false false false t u e = impossible cc

pub block_loading : (ph : Phase) (c n : ℕ) (p : Progress) (m : ℕ) → request_in ph c n ≡ gives_block → progress_in ph p m ≡ true → loading_ok p m ≡ true
block_loading Loading c n p m e r = r
block_loading Waiting c n p m e r = absurd (no_block c n e)
block_loading Started c n p m e r = impossible cc
block_loading Stopped c n p m e r = impossible cc

-- the length of RAM
pub length_facts : (m : ℕ) → length_ok m ≡ true → (1 ≤ m) × (m ≤ 131072)
length_facts m e = let b = (and-eq-true_iff (leb 1 m) _).0 e in (leb-true 1 m b.0, leb-true m 131072 b.1)

-- the parts of the range
pub record InRange (s : State) : Type 0 where
  pub ram_some : 1 ≤ s.config.ram_len
  pub ram_small : s.config.ram_len ≤ 131072
  pub incoming : incoming_ok s.incoming ≡ true
  pub progress : progress_ok s.progress s.config.ram_len ≡ true

pub range_facts : (s : State) → in_range s ≡ true → InRange s
unfolding in_range
range_facts s e =
    let a = (and-eq-true_iff (length_ok s.config.ram_len) _).0 e in
    let b = length_facts s.config.ram_len a.0 in
    let d = (and-eq-true_iff (incoming_ok s.incoming) _).0 a.1 in
    record {
      ram_some = b.0;
      ram_small = b.1;
      incoming = d.0;
      progress = d.1;
    }

-- and back
pub is_in_range : (s : State) → length_ok s.config.ram_len ≡ true → incoming_ok s.incoming ≡ true → progress_ok s.progress s.config.ram_len ≡ true
    → in_range s ≡ true
unfolding in_range
is_in_range s r i p = rw (r, i, p)

pub ram_ok : (s : State) → in_range s ≡ true → length_ok s.config.ram_len ≡ true
ram_ok s e = let f = range_facts s e in simp (le-leb 1 s.config.ram_len f.ram_some, le-leb s.config.ram_len 131072 f.ram_small)
