-- The theorem of specs/Theorems.antt.
use Prim.Native.Nat.{ℕ, ◌+◌, ◌^◌, ◌<◌, ◌≤◌}
use mathlib.Core.Path.{◌≡◌, refl, sym, ap, ◌∙◌, subst}
use mathlib.Core.Logic.{◌↔◌, ◌⊎◌, inl, inr, ⊎_elim}
use mathlib.Core.Bool.{true, false}
use mathlib.Core.List.{List, [], ◌∷◌, ◌++◌, append_assoc, append-nil, flatten}
use native.Mathlib.Omega.{arith}
use lib.ListN.{length, take, drop, take-append-drop, length-append, length-replicate}
use lib.Seq.{take-append_seam}
use borrow.Author.Tests.{lt-ltb}
use Rattle.endian.proofs.Words.{zero_words}
use Rattle.endian.specs.Lists.{zeros, All, Words}
use Rattle.record.specs.Record.{record_at}
use Rattle.head.specs.Answers as head
use Rattle.head.specs.Begin.{flash_of}
use Rattle.session.specs.Reading.{Good, own, size_of, digest_of, type_of, Loads, needed, Starting}
use Rattle.session.specs.Session.{Reset, begun, AsksClient, Admitted, Call, Entry, log, accepted, OneRam, Session, ram_len, all_of}
use Rattle.session.specs.Boot.{Started}
use Rattle.session.proofs.Begins.{Fresh, begin_accepted, fresh}
use Rattle.session.proofs.Proved.{first_live, first_runs, begins, verified_boot}
use Rattle.session.proofs.Sending.{calls_for}
use Rattle.session.proofs.Frames.{own_append}
use Rattle.session.proofs.Shapes.{no_load}
use Rattle.session.proofs.Acting.{empty_rest, grows}
use Rattle.protocol.specs.Commands.{blocks_for}
use Rattle.head.proofs.Ranges.{never}
use Rattle.head.specs.declared.State.{State}
use Rattle.diagnosis.specs.Reasons.{Reason, refused, stopped, unfinished, waiting, missing, started}
use Rattle.diagnosis.specs.Monitor.{Monitor, Verdict, Refused, Stopped, closed, opened, heard, has_room, heard_part, explained, diagnosis, is_open}
use Rattle.diagnosis.specs.Monitor as monitor
use Rattle.diagnosis.specs.declared.Position.{Position}
use Rattle.diagnosis.proofs.Walk.{begun_nowhere}
use Rattle.diagnosis.specs.declared.Refusal.TheVariants.{RecordLength, RamSize, FromFlash}
use Rattle.head.specs.declared.Stop.TheVariants.{UnknownType}
use Rattle.reasons.specs.Meaning.{LengthsOk, FrameAt, BadHeader, Holds, record_length, ram_size, from_flash, unknown_type, bad_header, bad_command, bad_length, bad_digest, is_unfinished, is_waiting, is_missing, has_started}
use Rattle.reasons.specs.Theorems.{reason_for, goes_on, Stands, is_measured, Hears, ends_of, end_in, SessionHearing, Diagnoses}
use Rattle.reasons.proofs.Next.{Onward, compare}
use Rattle.reasons.proofs.Closing.{loads_as}
use Rattle.reasons.proofs.Exclusive.{one_reason}
use Rattle.reasons.proofs.Places.{one_count}
use Rattle.reasons.proofs.Following.{seen, Follows}
use Rattle.reasons.proofs.Monitors.{reason_in, by_begun, heard_both, heard_after, heard_counts, open_goes, no_earlier}
use Rattle.reasons.proofs.Monitors as monitors
use Rattle.reasons.proofs.Ends.{Claims}
use Rattle.reasons.proofs.Walks.{Tells, walk}
use Rattle.reasons.proofs.Examples.{comes_up}
use Rattle.reasons.proofs.Numbers.{answers, refusal_told}
use Rattle.diagnosis.specs.Calls.{diagnose_call}
use Rattle.reasons.proofs.Existing.{Heard, hears_all}

-- the reason, by what was heard
told : (rec : List ℕ) (m : ℕ) (bytes : List ℕ) → reason_for rec m bytes ≡ reason_in (heard (monitor.begun rec m) bytes)
unfolding diagnosis explained
told rec m bytes = refl

-- a verdict that comes before any byte
closed_heard : (v : Verdict) (bytes : List ℕ) → is_open v ≡ false → heard (closed v) bytes ≡ closed v
unfolding closed
closed_heard v bytes e = heard_after (closed v) bytes e

module _ (R : Reset) (lent : Admitted R) (client : AsksClient R) where
  abbrev m : ℕ
  m = length R.ram

  abbrev first : Monitor
  first = opened (record_at R.rec) m

  begins_open : monitor.begun R.rec m ≡ first
  begins_open =
      by_begun R.rec m (λ (w : Monitor). w ≡ first) (λ n. absurd (n lent.record_length)) (λ e n. absurd (n (lent.ram_some, lent.ram_small)))
      (λ l t. absurd (known t client)) (λ a. refl) (λ l t. absurd (known' t client))
    where
      known : type_of R.rec ≤ 3 → AsksClient R → ⊥
      known t (inl e) = omega arith
      known t (inr e) = omega arith

      known' : 6 ≤ type_of R.rec → AsksClient R → ⊥
      known' t (inl e) = omega arith
      known' t (inr e) = omega arith

  first_follows : (f : Fresh R) → Follows R [] [] (begun R).state first
  unfolding opened flatten
  first_follows f =
      record {
        live = refl;
        head = sym (ap (λ (s : State). seen R s) f.state);
        hash = λ g. absurd (no_load m [] tt g.opening g.load g.blocks g.loads g.order);
        placed =
            record {
              count = refl;
              frames = λ fs p x. one_count [] [] fs [] p (record { reads = refl; all_good = tt; partial = tt }) x;
              stands = λ more n. absurd (omega arith);
              before_any = λ n. refl;
            };
        blank = refl;
      }

  -- what the monitor tells of a session that hears these bytes, whatever the RAM of its first acting holds
  module _ (r : List ℕ) (cs : List Call) (bytes : List ℕ) where
    abbrev entries : List Entry
    entries = log (begun R).state cs

    tells : Hears m bytes entries → OneRam r (accepted entries) → Tells R lent client [] bytes entries (heard first bytes)
    tells h one =
        let f = fresh R ((begin_accepted R).1 lent) client in
        walk R lent client bytes [] [] (begun R).state r first cs (first_live R r f) (first_follows f) (first_runs R f) h one

  reason_is : (bytes : List ℕ) → reason_for R.rec m bytes ≡ reason_in (heard first bytes)
  reason_is bytes = told R.rec m bytes ∙ ap (λ (w : Monitor). reason_in (heard w bytes)) begins_open

  -- there is such a session
  module _ (ram uds bytes : List ℕ) (same : length ram ≡ m) (eight : length uds ≡ 8) (typed : Words uds) where
    heard_by : Heard uds typed R eight bytes ram (log (begun R).state (calls_for uds typed bytes (begun R).state ram))
    heard_by =
        let f = fresh R ((begin_accepted R).1 lent) client in
        hears_all uds typed R eight bytes [] [] (begun R).state ram (first_live R ram f) (first_runs R f) same

    pub exists : SessionHearing R ram bytes
    exists =
        record {
          session =
              record {
                reset = R;
                begins = (begin_accepted R).1 lent;
                client = client;
                calls = calls_for uds typed bytes (begun R).state ram;
                ram = ram;
                one_ram = heard_by.one_ram;
              };
          same_reset = refl;
          same_ram = refl;
          hears = heard_by.hears;
        }

    claims_heard : Claims R.rec m bytes (heard first bytes)
    claims_heard = (tells ram (calls_for uds typed bytes (begun R).state ram) bytes heard_by.hears heard_by.one_ram).claims

-- ---- the reason holds

-- a head with this record and a RAM of zeros
abbrev reset_of : List ℕ → ℕ → Reset
reset_of rec m =
    record {
      rec = rec;
      udi = zeros 8;
      flash = flash_of [] 0 [] 0 (zeros 32);
      ram = zeros m;
      uds = zeros 8;
      typed = zero_words 8;
    }

length_zeros : (m : ℕ) → length (zeros m) ≡ m
length_zeros m = length-replicate m 0

admits : (rec : List ℕ) (m : ℕ) → LengthsOk rec m → Admitted (reset_of rec m)
admits rec m l =
    let e = length_zeros m in
    let s = l.ram_some in
    let k = l.ram_small in
    record { eight = refl; record_length = l.record_length; ram_some = omega arith; ram_small = omega arith }

-- where the verdict comes before any byte
early : (rec : List ℕ) (m : ℕ) (bytes : List ℕ) (v : Verdict) → is_open v ≡ false → Holds rec m bytes (reason_in (closed v))
    → is_measured (reason_in (closed v)) ≡ false → Claims rec m bytes (heard (closed v) bytes)
unfolding closed
early rec m bytes v e h n =
    subst (Claims rec m bytes) (sym (closed_heard v bytes e))
    (record {
      holds = h;
      all_read = λ g. never (sym g ∙ open_goes (closed v) ∙ e);
      before_any = λ z. refl;
      stands = λ l. absurd (omega arith);
      measured = λ t. never (sym t ∙ n);
      unmeasured = λ t. refl;
      start_byte = λ q. never (sym (ap is_measured q) ∙ n);
    })

claims : (rec : List ℕ) (m : ℕ) (bytes : List ℕ) → Claims rec m bytes (heard (monitor.begun rec m) bytes)
unfolding closed
claims rec m bytes =
    by_begun rec m (λ (w : Monitor). Claims rec m bytes (heard w bytes))
    (λ n. early rec m bytes (Refused RecordLength) refl (record_length n) refl)
    (λ e n. early rec m bytes (Refused RamSize) refl (ram_size e n) refl)
    (λ l t. early rec m bytes (Refused FromFlash) refl (from_flash l t) refl)
    (λ a.
    subst (λ (k : ℕ). Claims rec k bytes (heard (opened (record_at rec) k) bytes)) (length_zeros m)
    (claims_heard (reset_of rec m) (admits rec m a.lent) a.client (zeros m) (zeros 8) bytes refl refl (zero_words 8)))
    (λ l t. early rec m bytes (Stopped UnknownType) refl (unknown_type l t) refl)

holds : (rec : List ℕ) (m : ℕ) (bytes : List ℕ) → Holds rec m bytes (reason_for rec m bytes)
holds rec m bytes = subst (Holds rec m bytes) (sym (told rec m bytes)) (claims rec m bytes).holds

only : (rec : List ℕ) (m : ℕ) (bytes : List ℕ) (r : Reason) → Holds rec m bytes r → r ≡ reason_for rec m bytes
only rec m bytes r h = one_reason rec m bytes r (reason_for rec m bytes) h (holds rec m bytes)

-- ---- it is what the head did

module _ (S : Session) (bytes : List ℕ) (hears : Hears (ram_len S) bytes (all_of S)) where
  lent : Admitted S.reset
  lent = (begins S).lent

  told_of : Tells S.reset lent S.client [] bytes (all_of S) (heard (first S.reset lent S.client) bytes)
  told_of = tells S.reset lent S.client S.ram S.calls bytes hears S.one_ram

  did : ends_of 0 (all_of S) ≡ end_in (reason_for S.reset.rec (ram_len S) bytes)
  did = told_of.ends ∙ ap end_in (sym (reason_is S.reset lent S.client bytes))

  starts : (reason_for S.reset.rec (ram_len S) bytes ≡ started) ↔ Started S
  starts =
      let t = told_of.starts in
      let e = reason_is S.reset lent S.client bytes in (
        λ q.
            let x = t.0 (sym e ∙ q) in
            (x.loan, x.out, record { among = x.among; address = x.answered.address; size = x.answered.size; answers = x.answered.answers }),
        λ x.
            e ∙ t.1 (record {
              loan = x.0;
              out = x.1;
              among = x.2.among;
              answered = record { address = x.2.address; size = x.2.size; answers = x.2.answers };
            }),
      )

-- stop 20 says that the type is unknown
abbrev stop_in : Reason → ℕ
stop_in (refused k) = 0
stop_in (stopped k i) = k
stop_in unfinished = 0
stop_in waiting = 0
stop_in (missing n) = 0
stop_in started = 0

unknown : (rec : List ℕ) (m : ℕ) (bytes : List ℕ) (r : Reason) → Holds rec m bytes r → stop_in r ≡ 20 → 6 ≤ type_of rec
unknown rec m bytes r (record_length n) e = absurd (omega arith)
unknown rec m bytes r (ram_size l n) e = absurd (omega arith)
unknown rec m bytes r (from_flash l t) e = absurd (omega arith)
unknown rec m bytes r (unknown_type l t) e = t
unknown rec m bytes r (bad_header a i x) e = absurd (omega arith)
unknown rec m bytes r (bad_command a i x) e = absurd (omega arith)
unknown rec m bytes r (bad_length a i x) e = absurd (omega arith)
unknown rec m bytes r (bad_digest a i x) e = absurd (omega arith)
unknown rec m bytes r (is_unfinished a x) e = absurd (omega arith)
unknown rec m bytes r (is_waiting a x) e = absurd (omega arith)
unknown rec m bytes r (is_missing a k x) e = absurd (omega arith)
unknown rec m bytes r (has_started a x) e = absurd (omega arith)

at_begin : (R : Reset) (bytes : List ℕ) → Admitted R → ((begun R).report ≡ head.stopped 20) ↔ (reason_for R.rec (length R.ram) bytes ≡ stopped 20 0)
at_begin R bytes a =
    let rec = R.rec in
    let m = length R.ram in
    let l : LengthsOk rec m = record { record_length = a.record_length; ram_some = a.ram_some; ram_small = a.ram_small } in (
      λ e. sym (only rec m bytes (stopped 20 0) (unknown_type l ((verified_boot.begin_stops R).stop_20.0 e).1)),
      λ e. (verified_boot.begin_stops R).stop_20.1 (a, unknown rec m bytes _ (holds rec m bytes) (ap stop_in e)),
    )

resets : (rec : List ℕ) (m : ℕ) → length rec ≡ 256 → 1 ≤ m → m ≤ 131072 → (R : Reset) × (R.rec ≡ rec) × (length R.ram ≡ m) × Admitted R
resets rec m l s k = (reset_of rec m, refl, length_zeros m, admits rec m (record { record_length = l; ram_some = s; ram_small = k }))

-- ---- earlier bytes and later ones

stop_byte : (rec : List ℕ) (m : ℕ) (bytes : List ℕ) (k i : ℕ) → reason_for rec m bytes ≡ stopped k i → (diagnosis rec m bytes).byte ≡ i
unfolding diagnosis explained
stop_byte rec m bytes k i e = monitors.stop_byte (heard (monitor.begun rec m) bytes) k i e

start_byte : (rec : List ℕ) (m : ℕ) (bytes : List ℕ) → reason_for rec m bytes ≡ started → Starting rec [] m (take (diagnosis rec m bytes).byte bytes)
unfolding diagnosis explained
start_byte rec m bytes e = (claims rec m bytes).start_byte e

first_end : (rec : List ℕ) (m : ℕ) (bytes : List ℕ) (j : ℕ) → j < (diagnosis rec m bytes).byte → goes_on (reason_for rec m (take j bytes)) ≡ true
unfolding diagnosis explained
first_end rec m bytes j l =
    let w = monitor.begun rec m in
    open_goes (heard w (take j bytes)) ∙ no_earlier w bytes (ap (λ (q : Position). q.byte) (begun_nowhere rec m)) j l

all_read : (rec : List ℕ) (m : ℕ) (bytes : List ℕ) → goes_on (reason_for rec m bytes) ≡ true → (diagnosis rec m bytes).byte ≡ length bytes
unfolding diagnosis explained
all_read rec m bytes e = (claims rec m bytes).all_read e

before_any : (rec : List ℕ) (m : ℕ) (bytes : List ℕ) → let d = diagnosis rec m bytes in d.byte ≡ 0 → (d.frame ≡ 0) × (d.offset ≡ 0)
unfolding diagnosis explained
before_any rec m bytes e =
    let n = (claims rec m bytes).before_any e in
    (ap (λ (q : Position). q.frame) n, ap (λ (q : Position). q.offset) n)

unmeasured : (rec : List ℕ) (m : ℕ) (bytes : List ℕ) → is_measured (reason_for rec m bytes) ≡ false → (diagnosis rec m bytes).digest ≡ zeros 32
unfolding diagnosis explained
unmeasured rec m bytes e = (claims rec m bytes).unmeasured e

later : (rec : List ℕ) (m : ℕ) (bytes more : List ℕ) → goes_on (reason_for rec m bytes) ≡ false → diagnosis rec m (bytes ++ more) ≡ diagnosis rec m bytes
unfolding diagnosis
later rec m bytes more e =
    let w = monitor.begun rec m in
    let c : is_open (heard w bytes).verdict ≡ false = sym (open_goes (heard w bytes)) ∙ ap goes_on (sym (told rec m bytes)) ∙ e in
    ap explained (heard_both w bytes more ∙ heard_after (heard w bytes) more c)

-- what is said of the bytes up to byte i is said of them and of what else may come
module _ (rec : List ℕ) (m : ℕ) (bytes more : List ℕ) where
  -- the bytes up to byte i, where they are x
  up_to : (x rest : List ℕ) (i : ℕ) → bytes ≡ x ++ rest → i ≡ length x → take i bytes ++ more ≡ x ++ more
  up_to x rest i e l = rw (e, l) (ap (λ (y : List ℕ). y ++ more) (take-append_seam x rest))

  abbrev frame_up_to : {i : ℕ} → FrameAt bytes i → FrameAt (take i bytes ++ more) i
  frame_up_to {i = i} x =
      record {
        before = x.before;
        frame = x.frame;
        rest = more;
        reads = up_to (flatten (x.before ++ x.frame ∷ [])) x.rest i x.reads x.place;
        all_good = x.all_good;
        to_firmware = x.to_firmware;
        place = x.place;
      }

  header_up_to : {i : ℕ} → BadHeader m bytes i → BadHeader m (take i bytes ++ more) i
  header_up_to {i = i} x =
      let f = x.frames in
      let e : bytes ≡ (flatten f.before ++ x.header ∷ []) ++ x.after =
      f.reads ∙ ap (λ (y : List ℕ). flatten f.before ++ y) x.next ∙ sym (append_assoc (flatten f.before) (x.header ∷ []) x.after) in
      record {
        frames =
            record {
              before = f.before;
              rest = x.header ∷ more;
              reads =
                  up_to (flatten f.before ++ x.header ∷ []) x.after i e (x.place ∙ sym (length-append (flatten f.before) (x.header ∷ [])))
                  ∙ append_assoc (flatten f.before) (x.header ∷ []) more;
              all_good = f.all_good;
              goes_on = f.goes_on;
            };
        header = x.header;
        after = more;
        next = refl;
        bad = x.bad;
        place = x.place;
      }

  holds_up_to : (i : ℕ) (r : Reason) → Holds rec m bytes r → goes_on r ≡ false → ((k j : ℕ) → r ≡ stopped k j → i ≡ j)
      → (r ≡ started → Starting rec [] m (take i bytes)) → Holds rec m (take i bytes ++ more) r
  holds_up_to i r (record_length n) g e t = record_length n
  holds_up_to i r (ram_size l n) g e t = ram_size l n
  holds_up_to i r (from_flash l x) g e t = from_flash l x
  holds_up_to i r (unknown_type l x) g e t = unknown_type l x
  holds_up_to i r (bad_header a j x) g e t = bad_header a j (rw (e 22 j refl) (header_up_to x))
  holds_up_to i r (bad_command a j x) g e t = bad_command a j (rw (e 23 j refl) (record { at = frame_up_to x.at; not_allowed = x.not_allowed }))
  holds_up_to i r (bad_length a j x) g e t = bad_length a j (rw (e 24 j refl) (record { at = frame_up_to x.at; other_length = x.other_length }))
  holds_up_to i r (bad_digest a j x) g e t =
      bad_digest a j (rw (e 25 j refl) (record { at = frame_up_to x.at; load = x.load; all_came = x.all_came; barred = x.barred }))
  holds_up_to i r (is_unfinished a x) g e t = never g
  holds_up_to i r (is_waiting a x) g e t = never g
  holds_up_to i r (is_missing a n x) g e t = never g
  holds_up_to i r (has_started a x) g e t = has_started a (record { received = take i bytes; rest = more; reads = refl; starting = t refl })

same_reason : (rec : List ℕ) (m : ℕ) (bytes others : List ℕ) → goes_on (reason_for rec m bytes) ≡ false
    → reason_for rec m (take (diagnosis rec m bytes).byte bytes ++ others) ≡ reason_for rec m bytes
same_reason rec m bytes others g =
    let i = (diagnosis rec m bytes).byte in
    sym (only rec m (take i bytes ++ others) (reason_for rec m bytes)
    (holds_up_to rec m bytes others i (reason_for rec m bytes) (holds rec m bytes) g (λ k j. stop_byte rec m bytes k j) (start_byte rec m bytes)))

rest : (rec : List ℕ) (m : ℕ) (bytes others : List ℕ) → goes_on (reason_for rec m bytes) ≡ false
    → diagnosis rec m (take (diagnosis rec m bytes).byte bytes ++ others) ≡ diagnosis rec m bytes
rest rec m bytes others g =
    let i = (diagnosis rec m bytes).byte in
    let x = take i bytes in
    let n : goes_on (reason_for rec m x) ≡ false =
    ap (λ (y : List ℕ). goes_on (reason_for rec m y)) (sym (append-nil x)) ∙ ap goes_on (same_reason rec m bytes [] g) ∙ g in
    later rec m x others n ∙ sym (later rec m x (drop i bytes) n) ∙ ap (diagnosis rec m) (take-append-drop i bytes)

-- ---- the last byte that was read, and the digest

stands : (rec : List ℕ) (m : ℕ) (bytes : List ℕ) → let d = diagnosis rec m bytes in 1 ≤ d.byte → Stands bytes d.byte d.frame d.offset
unfolding diagnosis explained
stands rec m bytes = (claims rec m bytes).stands

-- two loads of which all has come, in the same bytes, are one
module _ (m : ℕ) (fs gs : List (List ℕ)) (l : Loads m (own fs)) (k : Loads m (own gs)) (el : length l.blocks ≡ needed l) (ek : length k.blocks ≡ needed k) where
  abbrev Same : Type 0
  Same = (l.load ≡ k.load) × (l.blocks ≡ k.blocks)

  same_load : (t u : List ℕ) → Onward fs t gs u → Same
  same_load t u o =
      let e : own gs ≡ own fs ++ own o.more = ap own o.frames ∙ own_append fs o.more in
      let x = grows m (own fs) (own o.more) l (loads_as m k e) in
      let n : length l.blocks + length (own o.more) ≡ length k.blocks = sym (length-append l.blocks (own o.more)) ∙ ap length x.1 in
      let s : needed l ≡ needed k = ap (λ (f : List ℕ). blocks_for (size_of f)) x.0 in
      let z = empty_rest (own o.more) (omega arith) in
      (x.0, sym (append-nil l.blocks) ∙ ap (λ (y : List (List ℕ)). l.blocks ++ y) (sym z) ∙ x.1)

measured : (rec : List ℕ) (m : ℕ) (bytes : List ℕ) → is_measured (reason_for rec m bytes) ≡ true
    → (fs : List (List ℕ)) (rest : List ℕ) → bytes ≡ flatten fs ++ rest → All Good fs → (l : Loads m (own fs)) → length l.blocks ≡ needed l
    → (diagnosis rec m bytes).digest ≡ digest_of l.load l.blocks
unfolding diagnosis explained
measured rec m bytes t fs rest e a l n =
    let x = (claims rec m bytes).measured t in
    let s : Same m x.frames fs x.load l x.all_came n =
    ⊎_elim (same_load m x.frames fs x.load l x.all_came n x.after rest)
    (λ o. let y = same_load m fs x.frames l x.load n x.all_came rest x.after o in (sym y.0, sym y.1))
    (compare x.frames fs x.after rest x.all_good a (sym x.reads ∙ e)) in
    x.digest ∙ rw (s.0, s.1)

room : (rec : List ℕ) (m : ℕ) (xs ys : List ℕ) → length xs + length ys < 2 ^ 64
    → heard_part (heard (monitor.begun rec m) xs) ys ≡ record { taken = true; monitor = heard (monitor.begun rec m) (xs ++ ys) }
unfolding heard_part has_room
room rec m xs ys l =
    let w = monitor.begun rec m in
    let b : w.position.byte ≡ 0 = ap (λ (q : Position). q.byte) (begun_nowhere rec m) in
    let f : w.position.frame ≡ 0 = ap (λ (q : Position). q.frame) (begun_nowhere rec m) in
    let c = heard_counts w xs in
    rw (lt-ltb ((heard w xs).position.byte + length ys) (2 ^ 64) (omega arith), lt-ltb ((heard w xs).position.frame + length ys) (2 ^ 64) (omega arith))
    (ap (λ (x : Monitor). record { taken = true; monitor = x }) (sym (heard_both w xs ys)))

kept : (rec : List ℕ) (m : ℕ) (bytes counts digest : List ℕ) → let c = diagnose_call rec m bytes counts digest in
    (c.answer ≡ 6) ⊎ ((c.answer ≡ 7) ⊎ (c.answer ≡ 48)) → (c.counts ≡ counts) × (c.digest ≡ digest)
unfolding diagnose_call
kept rec m bytes counts digest x = let e = refusal_told rec m bytes (reason_for rec m bytes) (holds rec m bytes) x in rw e (refl, refl)

pub diagnoses : Diagnoses
diagnoses =
    record {
      holds = holds;
      only = only;
      did = did;
      starts = starts;
      begins = at_begin;
      exists = λ R ram uds bytes a c e w t. exists R a c ram uds bytes e w t;
      resets = resets;
      stop_byte = stop_byte;
      start_byte = start_byte;
      first = first_end;
      rest = rest;
      all_read = all_read;
      before_any = before_any;
      stands = stands;
      measured = measured;
      unmeasured = unmeasured;
      parts = heard_both;
      room = room;
      answers = answers;
      kept = kept;
      comes_up = comes_up;
    }
