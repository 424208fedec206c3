-- The frames that the client makes, by document 01's reading of them: a load, and blocks that carry the program.
use Prim.Native.Nat.{ℕ, zero, suc, ◌+◌, ◌-◌, ◌*◌, ◌/◌, ◌%◌, ◌<◌, ◌≤◌}
use mathlib.Core.Path.{◌≡◌, refl, sym, ap, ◌∙◌, subst}
use mathlib.Core.Logic.{◌⊎◌, inl, inr}
use mathlib.Core.Bool.{Bool, true, false, cond}
use mathlib.Core.List.{List, [], ◌∷◌, ◌++◌, append-nil, flatten}
use native.Mathlib.Nat.{suc-sub-suc, sub-zero}
use native.Mathlib.Omega.{arith}
use lib.Dec.{eqb}
use lib.ListN.{length, get_or, take, drop, replicate, length-take, length-drop, take-append-drop}
use lib.Seq.{take-append-add, take-append_seam, take_all, drop_at}
use borrow.Author.Tests.{eq-eqb, ne_eqb}
use Rattle.framing.specs.Header.{good, header_at, in_field, endpoint}
use Rattle.framing.proofs.Headers.{headers, fields_of_is}
use Rattle.endian.specs.Endian.{word}
use Rattle.rfc7693.specs.Rfc7693.{blake2s}
use Rattle.protocol.specs.Commands.{firmware, load_in, carried_by, blocks_for}
use Rattle.protocol.specs.Replies.{written}
use Rattle.endian.specs.Lists.{padded, All, Bytes}
use Rattle.protocol.specs.Theorems.{load_with, IsGood}
use Rattle.protocol.proofs.Proved.{protocol}
use Rattle.protocol.specs.declared.Load.{Load}
use Rattle.client.specs.Frames.{Secret, command_header, size_bytes, load_body, block_body}
use Rattle.client.proofs.Proved.{client}
use Rattle.endian.proofs.Words.{rebuilt}
use Rattle.session.specs.Reading.{Good, own, GoodLoad, BlockFrame, carried, program_of}
use Rattle.session.specs.Reading as shape
use Rattle.session.specs.Session.{Reset}
use Rattle.session.specs.Client.{frame, frames_to, frames, Made, ProgramLoad, ProgramBlock, ReadAs}
use Rattle.session.proofs.Resets.{ReadsOn, AllowedOn}
use Rattle.session.proofs.Frames.{all_append, own_more}
use Rattle.session.proofs.Gathering.{length_snoc}
use Rattle.session.proofs.Shapes.{carried_snoc}

-- the four bytes of a size
size_is : (n : ℕ) → n < 4294967296 → word (size_bytes n) 0 ≡ n
unfolding word
size_is n h = let r = rebuilt n h in omega arith

-- and no other bytes are
size_only : (n a b c d : ℕ) → a < 256 → b < 256 → c < 256 → d < 256 → a + b * 256 + c * 65536 + d * 16777216 ≡ n
    → (a ≡ n / 1 % 256) × (b ≡ n / 256 % 256) × (c ≡ n / 65536 % 256) × (d ≡ n / 16777216 % 256)
size_only n a b c d la lb lc ld e =
    let p : n / 256 ≡ b + c * 256 + d * 65536 = omega arith in
    let q : n / 65536 ≡ c + d * 256 = omega arith in
    let r : n / 16777216 ≡ d = omega arith in
    (omega arith, rw p (omega arith), rw q (omega arith), rw r (omega arith))

body_length : (h : ℕ) (body : List ℕ) → length (h ∷ body) ≡ 129 → length body ≡ 128
body_length h body e = omega arith

module _ (prog : List ℕ) (id : ℕ) (secret : Secret) (made : Made prog id secret) where
  some : 1 ≤ length prog
  some = ((client.accepts (length prog) id 0).0 made.accepted).0

  small : length prog ≤ 131072
  small = ((client.accepts (length prog) id 0).0 made.accepted).1

  id_small : id ≤ 3
  id_small = ((client.accepts (length prog) id 0).0 made.accepted).2

  -- ---- each frame

  abbrev block_frame : ℕ → List ℕ
  block_frame k = command_header id ∷ block_body prog k

  pub frame_suc : (k : ℕ) → frame prog id secret (suc k) ≡ block_frame k
  frame_suc k = rw (ne_eqb (suc k) 0 (λ z. omega arith), suc-sub-suc k 0, sub-zero)

  frame_header : header_at (command_header id) ≡ good id firmware 128
  frame_header = client.header id id_small

  pub is_own : eqb (in_field endpoint (command_header id)) firmware ≡ true
  is_own = eq-eqb (in_field endpoint (command_header id)) firmware (fields_of_is (command_header id) id firmware 128 frame_header).1

  pub whole : (k : ℕ) → length (frame prog id secret k) ≡ 129
  whole k = client.frame prog id secret k made.uss_length

  pub is_good_when : (k : ℕ) → Good (frame prog id secret k)
  is_good_when k = record { id = id; ep = firmware; n = 128; header = frame_header; whole = whole k }

  pub load_is : load_in (frame prog id secret 0) ≡ load_with (length prog) (cond secret.used 1 0) (cond secret.used secret.uss (replicate 32 0))
  unfolding load_body
  load_is = go secret.used
    where
      size : word (size_bytes (length prog)) 0 ≡ length prog
      size = let s = small in size_is (length prog) (omega arith)

      go : (u : Bool) → load_in (command_header id ∷ padded 128 (0x03 ∷ size_bytes (length prog) ++ cond u (1 ∷ secret.uss) (0 ∷ [])))
          ≡ load_with (length prog) (cond u 1 0) (cond u secret.uss (replicate 32 0))
      go true = protocol.load (command_header id) 0x03 1 (size_bytes (length prog)) secret.uss _ refl made.uss_length ∙ ap (λ (n : ℕ). load_with n 1 secret.uss) size
      go false =
          protocol.load (command_header id) 0x03 0 (size_bytes (length prog)) (replicate 32 0) (replicate 90 0) refl refl
          ∙ ap (λ (n : ℕ). load_with n 0 (replicate 32 0)) size

  -- what is ignored
  ignored : drop 39 (frame prog id secret 0) ≡ replicate 90 0
  unfolding load_body
  ignored = go secret.used
    where
      go : (u : Bool) → drop 38 (padded 128 (0x03 ∷ size_bytes (length prog) ++ cond u (1 ∷ secret.uss) (0 ∷ []))) ≡ replicate 90 0
      go true = rw made.uss_length (drop_at secret.uss (replicate 90 0) 32 made.uss_length)
      go false = refl

  pub is_load : shape.LoadFrame (frame prog id secret 0)
  unfolding load_body
  is_load = (body_length (command_header id) (load_body (length prog) secret) (whole 0), refl)

  -- a head with room for the program takes it
  pub load_good : (m : ℕ) → length prog ≤ m → GoodLoad m (frame prog id secret 0)
  load_good m fits =
      let g : IsGood m (load_in (frame prog id secret 0)) = rw load_is (record { some = some; fits = fits; flag = zero_or_one secret.used }) in
      (is_load, (protocol.good_load_exactly m (load_in (frame prog id secret 0))).1 g)
    where
      zero_or_one : (u : Bool) → (◌≡◌ {A = ℕ} (cond u 1 0) 0) ⊎ (◌≡◌ {A = ℕ} (cond u 1 0) 1)
      zero_or_one true = inr refl
      zero_or_one false = inl refl

  load_fits : (m : ℕ) → GoodLoad m (frame prog id secret 0) → length prog ≤ m
  load_fits m l = let g = (protocol.good_load_exactly m (load_in (frame prog id secret 0))).0 l.1 in rw load_is at g.fits

  -- the part of the program that a block carries
  abbrev part : ℕ → List ℕ
  part k = padded 127 (take 127 (drop (127 * k) prog))

  carries : (k : ℕ) → carried_by (block_frame k) ≡ part k
  unfolding block_body
  carries k =
      ap (λ (n : ℕ). take 127 (drop (127 * k) prog) ++ replicate n 0) (suc-sub-suc 127 (length (take 127 (drop (127 * k) prog))))

  block_good : (k : ℕ) → Good (block_frame k)
  block_good k = subst Good (frame_suc k) (is_good_when (suc k))

  pub is_block : (k : ℕ) → BlockFrame (block_frame k)
  unfolding block_body
  is_block k = (body_length (command_header id) (block_body prog k) (ap length (sym (frame_suc k)) ∙ whole (suc k)), refl)

  -- ---- the blocks

  -- the blocks before block k
  abbrev pub blocks_to : ℕ → List (List ℕ)
  blocks_to zero = []
  blocks_to (suc k) = blocks_to k ++ block_frame k ∷ []

  pub frames_are : (k : ℕ) → frames_to prog id secret (suc k) ≡ frame prog id secret 0 ∷ blocks_to k
  frames_are zero = refl
  frames_are (suc k) =
      ap (λ (x : List (List ℕ)). x ++ frame prog id secret (suc k) ∷ []) (frames_are k)
      ∙ ap (λ (f : List ℕ). frame prog id secret 0 ∷ (blocks_to k ++ f ∷ [])) (frame_suc k)

  blocks_are : (k : ℕ) → All BlockFrame (blocks_to k)
  blocks_are zero = tt
  blocks_are (suc k) = all_append BlockFrame (blocks_to k) (block_frame k ∷ []) (blocks_are k) (is_block k, tt)

  blocks_good : (k : ℕ) → All Good (blocks_to k)
  blocks_good zero = tt
  blocks_good (suc k) = all_append Good (blocks_to k) (block_frame k ∷ []) (blocks_good k) (block_good k, tt)

  blocks_own : (k : ℕ) → own (blocks_to k) ≡ blocks_to k
  blocks_own zero = refl
  blocks_own (suc k) = own_more (blocks_to k) (block_frame k) is_own ∙ ap (λ (x : List (List ℕ)). x ++ block_frame k ∷ []) (blocks_own k)

  blocks_count : (k : ℕ) → length (blocks_to k) ≡ k
  blocks_count zero = refl
  blocks_count (suc k) = length_snoc (blocks_to k) (block_frame k) ∙ omega (arith, blocks_count k)

  -- whole blocks carry the front of the program
  take_more : (j k : ℕ) (l : List ℕ) → j ≤ length l → take (j + k) l ≡ take j l ++ take k (drop j l)
  take_more j k l h =
      let n : length (take j l) ≡ j = length-take j l ∙ omega arith in
      ap (take (j + k)) (sym (take-append-drop j l)) ∙ ap (λ (i : ℕ). take (i + k) (take j l ++ drop j l)) (sym n) ∙ take-append-add (take j l) (drop j l) k

  carried_front : (k : ℕ) → 127 * k ≤ length prog → carried (blocks_to k) ≡ take (127 * k) prog
  carried_front zero l = refl
  carried_front (suc k) l =
      let d = length-drop (127 * k) prog in
      let t = length-take 127 (drop (127 * k) prog) in
      let z : 127 - length (take 127 (drop (127 * k) prog)) ≡ 0 = omega arith in
      let f : part k ≡ take 127 (drop (127 * k) prog) =
      ap (λ (n : ℕ). take 127 (drop (127 * k) prog) ++ replicate n 0) z ∙ append-nil (take 127 (drop (127 * k) prog)) in
      let s : 127 * suc k ≡ 127 * k + 127 = omega arith in
      carried_snoc (blocks_to k) (block_frame k)
      ∙ ap (λ (x : List ℕ). carried (blocks_to k) ++ x) (carries k ∙ f)
      ∙ ap (λ (x : List ℕ). x ++ take 127 (drop (127 * k) prog)) (carried_front k (omega arith))
      ∙ sym (take_more (127 * k) 127 prog (omega arith)) ∙ ap (λ (n : ℕ). take n prog) (sym s)

  -- and with the last block the program is whole
  carried_whole : (k : ℕ) → 127 * k < length prog → length prog ≤ 127 * k + 127 → take (length prog) (carried (blocks_to (suc k))) ≡ prog
  carried_whole k lo hi =
      let d = length-drop (127 * k) prog in
      let t : take 127 (drop (127 * k) prog) ≡ drop (127 * k) prog = take_all 127 (drop (127 * k) prog) (omega arith) in
      let l : length (take (127 * k) prog) ≡ 127 * k = length-take (127 * k) prog ∙ omega arith in
      let n : length prog ≡ length (take (127 * k) prog) + length (drop (127 * k) prog) = omega arith in
      ap (take (length prog))
      (carried_snoc (blocks_to k) (block_frame k)
      ∙ ap (λ (x : List ℕ). carried (blocks_to k) ++ x) (carries k)
      ∙ ap (λ (x : List ℕ). x ++ part k) (carried_front k (omega arith)))
      ∙ ap (λ (i : ℕ). take i (take (127 * k) prog ++ part k)) n
      ∙ take-append-add (take (127 * k) prog) (part k) (length (drop (127 * k) prog))
      ∙ ap (λ (x : List ℕ). take (127 * k) prog ++ take (length (drop (127 * k) prog)) (x ++ replicate (127 - length x) 0)) t
      ∙ ap (λ (x : List ℕ). take (127 * k) prog ++ x) (take-append_seam (drop (127 * k) prog) (replicate (127 - length (drop (127 * k) prog)) 0))
      ∙ take-append-drop (127 * k) prog

  -- ---- no other bytes read so

  header_only : (h : ℕ) → h < 256 → header_at h ≡ good id firmware 128 → h ≡ command_header id
  unfolding command_header
  header_only h l e = ap written (sym ((headers.exact h id firmware 128 0).0 (l, (headers.command h id firmware 128).0 e)))

  is_load_frame : ProgramLoad prog id secret (frame prog id secret 0)
  is_load_frame = record { header = frame_header; load = is_load; says = load_is; ignored = ignored }

  -- the body of the load, where the user secret is these 32 bytes
  body_is : load_body (length prog) secret
      ≡ 0x03 ∷ size_bytes (length prog) ++ cond secret.used 1 0 ∷ (cond secret.used secret.uss (replicate 32 0) ++ replicate 90 0)
  unfolding load_body
  body_is = go secret.used
    where
      go : (u : Bool) → padded 128 (0x03 ∷ size_bytes (length prog) ++ cond u (1 ∷ secret.uss) (0 ∷ []))
          ≡ 0x03 ∷ size_bytes (length prog) ++ cond u 1 0 ∷ (cond u secret.uss (replicate 32 0) ++ replicate 90 0)
      go true = rw made.uss_length
      go false = refl

  load_only : (f : List ℕ) → Bytes f → ProgramLoad prog id secret f → f ≡ frame prog id secret 0
  unfolding load_in word
  load_only [] b l = absurd (let w : 0 ≡ 128 = l.load.0 in omega arith)
  load_only (h ∷ []) b l = absurd (let w : 0 ≡ 128 = l.load.0 in omega arith)
  load_only (h ∷ c ∷ []) b l = absurd (let w : 1 ≡ 128 = l.load.0 in omega arith)
  load_only (h ∷ c ∷ s ∷ []) b l = absurd (let w : 2 ≡ 128 = l.load.0 in omega arith)
  load_only (h ∷ c ∷ s ∷ t ∷ []) b l = absurd (let w : 3 ≡ 128 = l.load.0 in omega arith)
  load_only (h ∷ c ∷ s ∷ t ∷ u ∷ []) b l = absurd (let w : 4 ≡ 128 = l.load.0 in omega arith)
  load_only (h ∷ c ∷ s ∷ t ∷ u ∷ v ∷ []) b l = absurd (let w : 5 ≡ 128 = l.load.0 in omega arith)
  load_only (h ∷ c ∷ s ∷ t ∷ u ∷ v ∷ g ∷ rest) b l =
      let e : h ≡ command_header id = header_only h b.0 l.header in
      let d : c ≡ 3 = l.load.1 in
      let z = size_only (length prog) s t u v b.1.1.0 b.1.1.1.0 b.1.1.1.1.0 b.1.1.1.1.1.0 (ap (λ (x : Load). x.size) l.says) in
      let k : g ≡ cond secret.used 1 0 = ap (λ (x : Load). x.flag) l.says in
      let r : rest ≡ cond secret.used secret.uss (replicate 32 0) ++ replicate 90 0 =
      sym (take-append-drop 32 rest) ∙ ap (λ (x : List ℕ). x ++ drop 32 rest) (ap (λ (x : Load). x.uss) l.says)
      ∙ ap (λ (x : List ℕ). cond secret.used secret.uss (replicate 32 0) ++ x) l.ignored in
      rw (e, d, z.0, z.1, z.2, z.3, k, r, body_is)

  is_block_frame : (k : ℕ) → ProgramBlock prog id secret k (block_frame k)
  is_block_frame k = record { header = frame_header; block = is_block k; carries = carries k }

  block_only : (k : ℕ) (f : List ℕ) → Bytes f → ProgramBlock prog id secret k f → f ≡ block_frame k
  unfolding block_body
  block_only k [] b l = absurd (let w : 0 ≡ 128 = l.block.0 in omega arith)
  block_only k (h ∷ []) b l = absurd (let w : 0 ≡ 128 = l.block.0 in omega arith)
  block_only k (h ∷ c ∷ rest) b l =
      let e : h ≡ command_header id = header_only h b.0 l.header in
      let d : c ≡ 5 = l.block.1 in
      let r : rest ≡ carried_by (block_frame k) = l.carries ∙ sym (carries k) in
      ap (λ (x : ℕ). x ∷ c ∷ rest) e ∙ ap (λ (x : ℕ). command_header id ∷ x ∷ rest) d ∙ ap (λ (x : List ℕ). command_header id ∷ 0x05 ∷ x) r

  pub reads : ReadAs prog id secret
  reads =
      record {
        load = λ f b. (λ e. subst (ProgramLoad prog id secret) (sym e) is_load_frame, load_only f b);
        block = λ k f b.
            (λ e. subst (ProgramBlock prog id secret k) (sym (e ∙ frame_suc k)) (is_block_frame k), λ l. block_only k f b l ∙ sym (frame_suc k));
        taken = λ m. (load_fits m, load_good m);
      }

  -- ---- the reading of these frames

  module _ (R : Reset) (fits : length prog ≤ length R.ram) (allows : AllowedOn R (blake2s [] prog 32)) where
    -- the number of the last block
    abbrev last_number : ℕ
    last_number = (length prog - 1) / 127

    needed : blocks_for (length prog) ≡ suc last_number
    needed = let s = some in omega arith

    same_program : program_of (frame prog id secret 0) (blocks_to (suc last_number)) ≡ prog
    same_program =
        let s = some in
        ap (λ (l : Load). take l.size (carried (blocks_to (suc last_number)))) load_is ∙ carried_whole last_number (omega arith) (omega arith)

    all_frames : frames prog id secret ≡ frame prog id secret 0 ∷ blocks_to (suc last_number)
    all_frames = frames_are (blocks_for (length prog)) ∙ ap (λ (k : ℕ). frame prog id secret 0 ∷ blocks_to k) needed

    pub reading : (received : List ℕ) → received ≡ flatten (frames prog id secret) → ReadsOn R received
    reading received e =
        record {
          before = frame prog id secret 0 ∷ blocks_to last_number;
          last = block_frame last_number;
          all_good = (is_good_when 0, blocks_good (suc last_number));
          nothing_left = e ∙ ap flatten all_frames;
          last_own = is_own;
          last_block = is_block last_number;
          loading =
              record {
                opening = [];
                load = frame prog id secret 0;
                blocks = blocks_to (suc last_number);
                order = rw is_own (ap (λ (x : List (List ℕ)). frame prog id secret 0 ∷ x) (blocks_own (suc last_number)));
                opens = tt;
                loads = load_good (length R.ram) fits;
                carry = blocks_are (suc last_number);
              };
          enough = blocks_count (suc last_number) ∙ sym (ap (λ (l : Load). blocks_for l.size) load_is ∙ needed);
          allowed = subst (AllowedOn R) (ap (λ (x : List ℕ). blake2s [] x 32) (sym same_program)) allows;
        }

    -- its program and its load
    pub reading_program : (received : List ℕ) (e : received ≡ flatten (frames prog id secret)) → program_of (reading received e).loading.load (reading received e).loading.blocks ≡ prog
    unfolding reading
    reading_program received e = same_program

    pub reading_load : (received : List ℕ) (e : received ≡ flatten (frames prog id secret))
        → load_in (reading received e).loading.load ≡ load_with (length prog) (cond secret.used 1 0) (cond secret.used secret.uss (replicate 32 0))
    unfolding reading
    reading_load received e = load_is

    pub reading_last : (received : List ℕ) (e : received ≡ flatten (frames prog id secret)) → get_or (reading received e).last 0 0 ≡ command_header id
    unfolding reading
    reading_last received e = refl
