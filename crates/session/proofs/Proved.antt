-- Verified boot (specs/Boot.antt): each claim about a session from the walk over its calls, and those about flash from what begin does.
use Prim.Native.Nat.{ℕ, ◌≤◌}
use mathlib.Core.Path.{◌≡◌, refl, sym, ap, ◌∙◌, subst}
use mathlib.Core.Logic.{◌↔◌}
use mathlib.Core.Bool.{Bool, true, false, cond, or-false}
use mathlib.Core.Option.{none, some}
use mathlib.Core.List.{List, [], ◌∷◌, ◌++◌, append-nil, flatten}
use native.Mathlib.Omega.{arith}
use lib.ListN.{length, get_or, take, replicate}
use Rattle.rfc7693.specs.Rfc7693.{blake2s}
use Rattle.protocol.specs.Commands.{load_in, uses_uss}
use Rattle.protocol.specs.Theorems.{load_with}
use Rattle.protocol.specs.declared.Load.{Load}
use Rattle.client.specs.Frames.{Secret, secret_of}
use Rattle.client.proofs.Proved as making
use Rattle.head.specs.State.{is_whole, live}
use Rattle.head.specs.Answers.{refused, whole, started, Gathering, Outcome}
use Rattle.head.specs.Begin.{waiting}
use Rattle.endian.specs.Lists.{Words}
use Rattle.session.specs.Reading.{own, program_of}
use Rattle.session.specs.Session.{Reset, begun, AsksClient, Admitted, Loan, Call, Entry, gathers, acts, call_of, report_in, Among, log, accepted, gathered_bytes, Session, ram_len, all_of, accepted_of, is_end, has_ended, last_is, is_acting, completes, frame_is_whole, refusal_in}
use Rattle.session.specs.Client.{frames, Made}
use Rattle.session.specs.Boot.{StartedAt, Started, Reads, ActedOn, Basis, carried_basis, Start, basis_of, Gives, StartOf, AnyStart, from_client, from_flash, basis, EndsWhole, VerifiedBoot}
use Rattle.session.proofs.Resets.{ReadsOn, AllowedOn}
use Rattle.session.proofs.Frames.{last_same, reads_on, no_frames}
use Rattle.session.proofs.Shapes.{one_shape, program_length}
use Rattle.session.proofs.Acting.{is_waiting, Leaves}
use Rattle.session.proofs.Calls.{Live}
use Rattle.session.proofs.Gathering.{is_part}
use Rattle.session.proofs.Entries.{last_from, last_from_is}
use Rattle.session.proofs.Walk.{Wholes, wholes_at, is_live, StartRead, Walk, walk}
use Rattle.session.proofs.Ranges.{ranges}
use Rattle.session.proofs.Begins.{Fresh, begin_accepted, begin_waits, fresh, client_begins, client_digests, Runs, table_from}
use Rattle.session.proofs.Starts.{whole_before, nothing_after}
use Rattle.session.proofs.ClientFrames as made
use Rattle.session.proofs.Sending.{calls_for, AllAccepted, all_accepted}
use Rattle.session.proofs.Strings.{uss_length, Sound, string_size, string_domain, same_basis}
use Rattle.session.proofs.Flash.{flash_exactly, flash_sound, flash_gives, begin_stops, flash_exists}
use Rattle.head.specs.declared.State.{State}

-- ---- one reading

module _ (R : Reset) (received : List ℕ) (w w' : ReadsOn R received) where
  same_frames : w.before ++ w.last ∷ [] ≡ w'.before ++ w'.last ∷ []
  same_frames =
      let u = reads_on (w'.before ++ w'.last ∷ []) (w.before ++ w.last ∷ []) [] w'.all_good w.all_good (append-nil _ ∙ sym w'.nothing_left ∙ w.nothing_left) in
      u.frames ∙ ap (λ (x : List (List ℕ)). (w'.before ++ w'.last ∷ []) ++ x) (no_frames u.rest u.all_good u.bytes) ∙ append-nil _

  pub one_reading : (w.loading.opening ≡ w'.loading.opening) × (w.loading.load ≡ w'.loading.load) × (w.loading.blocks ≡ w'.loading.blocks)
  one_reading =
      one_shape (length R.ram) w.loading.opening w'.loading.opening w.loading.load w'.loading.load w.loading.blocks w'.loading.blocks w.loading.opens w'.loading.opens w.loading.loads w'.loading.loads
      (sym w.loading.order ∙ ap own same_frames ∙ w'.loading.order)

  pub one_last : w.last ≡ w'.last
  one_last = last_same w.before w'.before w.last w'.last same_frames

  -- what a start is made from is fixed by the load and the blocks
  one_basis : (uds : List ℕ) → carried_basis w uds ≡ carried_basis w' uds
  one_basis uds = go w.loading.load w'.loading.load w.loading.blocks w'.loading.blocks one_reading.1 one_reading.2
    where
      made_from : List ℕ → List (List ℕ) → Basis
      made_from l b = record { rec = R.rec; uds = uds; program = program_of l b; used = uses_uss (load_in l); uss = (load_in l).uss }

      go : (l l' : List ℕ) (b b' : List (List ℕ)) → l ≡ l' → b ≡ b' → made_from l b ≡ made_from l' b'
      go l l' b b' p q = rw (p, q)

-- ---- a session

pub first_live : (R : Reset) (r : List ℕ) → Fresh R → Live R [] [] (begun R).state r
unfolding flatten
first_live R r f =
    record { frames = []; part = []; all_good = tt; whole = refl; partial = tt; owned = refl; progress = waiting; state = f.state; doing = is_waiting tt }

pub first_runs : (R : Reset) → Fresh R → Runs (length R.ram) (begun R).state false false
first_runs R f =
    record {
      range = (ranges R []).begun;
      ram = ap (λ (s : State). s.config.ram_len) f.state;
      goes = ap (λ (s : State). live s.progress.phase) f.state;
      holds = ap (λ (s : State). is_whole s.incoming) f.state ∙ is_part [] tt;
    }

module _ (S : Session) where
  pub begins : Fresh S.reset
  begins = fresh S.reset S.begins S.client

  walked : Walk S.reset false [] (accepted_of S)
  walked = walk S.reset S.calls [] false [] _ S.ram (is_live (first_live S.reset S.ram begins)) S.one_ram

  start_read : (l : Loan) (o : Outcome) → StartedAt S l o
      → StartRead S.reset (gathered_bytes (accepted_of S)) l o × (last_from is_acting false (accepted_of S) ≡ true)
  start_read l o t = walked.only l o t.among (record { address = t.address; size = t.size; answers = t.answers })

  pub exactly : Started S ↔ (Reads S × ActedOn S)
  exactly = (
    λ t. let b = start_read t.0 t.1 t.2 in (b.0.reading, last_from_is is_acting (accepted_of S) ∙ b.1),
    λ w.
        let t = walked.whenever w.0 (sym (last_from_is is_acting (accepted_of S)) ∙ w.1) in
        (t.0, t.1, record { among = t.2; address = t.3.address; size = t.3.size; answers = t.3.answers }),
  )

  pub table : (e : Entry) (i : Among e (all_of S)) (k : ℕ)
      → (report_in e ≡ refused k) ↔ ((k ≡ refusal_in (has_ended i.before) (frame_is_whole i.before) (ram_len S) (call_of e)) × (k ≡ 0 → ⊥))
  table e i k =
      rw (← or-false (has_ended i.before), last_from_is completes (accepted i.before))
      (table_from (ram_len S) S.calls _ false false (first_runs S.reset begins) i.before i.after e i.place k)

  whole_when : (b : ℕ) (g : Gathering) (i : Among (gathers b g) (accepted_of S)) → (g.report ≡ whole) ↔ EndsWhole (gathered_bytes i.before ++ b ∷ [])
  whole_when b g i = wholes_at [] i.before i.after b g (subst (Wholes []) i.place walked.wholes)

  module _ (t : Start S) where
    leaves : Leaves S.reset t.reading.loading.load t.reading.loading.blocks (get_or t.reading.last 0 0) t.loan.room t.loan.uds t.out
    leaves =
        let b = (start_read t.loan t.out t.started_at).0 in
        let o = one_reading S.reset (gathered_bytes (accepted_of S)) b.reading t.reading in
        let l = one_last S.reset (gathered_bytes (accepted_of S)) b.reading t.reading in
        subst (λ (f : List ℕ). Leaves S.reset t.reading.loading.load t.reading.loading.blocks (get_or f 0 0) t.loan.room t.loan.uds t.out) l
        (subst (λ (f : List (List ℕ)). Leaves S.reset t.reading.loading.load f (get_or b.reading.last 0 0) t.loan.room t.loan.uds t.out) o.2
        (subst (λ (f : List ℕ). Leaves S.reset f b.reading.loading.blocks (get_or b.reading.last 0 0) t.loan.room t.loan.uds t.out) o.1
        b.leaves))

    carried_sound : Sound (basis_of t)
    carried_sound =
        record {
          eight = (start_read t.loan t.out t.started_at).0.eight;
          typed = t.loan.words;
          size = begins.lent.record_length;
          secret = λ e. uss_length t.reading.loading.load t.reading.loading.loads.0;
        }

    pub gives : Gives t
    gives =
        let l = leaves in
        let a = t.started_at.among in
        let n = program_length t.reading.loading.load t.reading.loading.blocks t.reading.loading.carry t.reading.enough in
        record {
          start =
              record {
                report = l.report ∙ ap (started 0x40000000) (sym n);
                cdi = l.cdi;
                string_length = string_size (basis_of t) carried_sound;
                domain = string_domain (basis_of t) carried_sound;
                digests = l.digests;
                front = ap (λ (k : ℕ). take k t.out.ram) n ∙ l.front;
                eight = carried_sound.eight;
                cleared = l.cleared;
              };
          size = n;
          reply = l.reply;
          room = l.room_after;
          last_call = nothing_after (ram_len S) (all_of S) table t.loan t.out a.before a.after a.place (ap is_end t.started_at.answers);
          block_whole = whole_before (ram_len S) (all_of S) table t.loan t.out a.before a.after a.place;
        }

pub sound : (t : AnyStart) → Sound (basis t)
sound (from_client S t) = carried_sound S t
sound (from_flash R t) = let b = (flash_exactly R).0 t in flash_sound R b.0 b.1 b.2 b.3

-- ---- existence

module _ (R : Reset) (ram uds prog : List ℕ) (id : ℕ) (secret : Secret) (makes : Made prog id secret)
    (lent : Admitted R) (client : AsksClient R) (same_length : length ram ≡ length R.ram)
    (eight : length uds ≡ 8) (typed : Words uds) (fits : length prog ≤ length ram) (allows : AllowedOn R (blake2s [] prog 32)) where
  abbrev sent : List ℕ
  sent = flatten (frames prog id secret)

  abbrev sent_calls : List Call
  sent_calls = calls_for uds typed sent (begun R).state ram

  fits_reset : length prog ≤ length R.ram
  fits_reset = omega arith

  pub sent_accepted : AllAccepted uds typed sent ram false (log (begun R).state sent_calls)
  sent_accepted =
      let f = fresh R ((begin_accepted R).1 lent) client in
      all_accepted uds typed R eight sent [] [] (begun R).state ram false (first_live R ram f) (first_runs R f) same_length
      (made.reading prog id secret makes R fits_reset allows sent refl)

  -- the session in which the head is sent these frames
  abbrev pub session : Session
  session =
      record {
        reset = R;
        begins = (begin_accepted R).1 lent;
        client = client;
        calls = sent_calls;
        ram = ram;
        one_ram = rw sent_accepted.none_refused sent_accepted.one_ram;
      }

  pub all_acted : last_is is_acting (all_of session) ≡ true
  all_acted = last_from_is is_acting (all_of session) ∙ sent_accepted.acted_on

  abbrev received : List ℕ
  received = gathered_bytes (accepted_of session)

  all_received : received ≡ sent
  all_received = ap gathered_bytes sent_accepted.none_refused ∙ sent_accepted.all_bytes

  abbrev reading : Reads session
  reading = made.reading prog id secret makes R fits_reset allows received all_received

  -- the flag of the load says whether there is a user secret
  secret_of_is : (l : Load) (v : Bool) → l ≡ load_with (length prog) (cond v 1 0) (cond v secret.uss (replicate 32 0))
      → cond (uses_uss l) (some l.uss) none ≡ cond v (some secret.uss) none
  secret_of_is l true e = rw e refl
  secret_of_is l false e = rw e refl

  start_of : StartOf R ram uds prog (cond secret.used (some secret.uss) none)
  start_of =
      let t = (exactly session).1 (reading, ap (last_is is_acting) sent_accepted.none_refused ∙ all_acted) in
      record {
        session = session;
        start = record { loan = t.0; out = t.1; started_at = t.2; reading = reading };
        same_reset = refl;
        same_ram = refl;
        same_uds = sent_accepted.same_uds t.0 t.1 (subst (Among (acts t.0 t.1)) sent_accepted.none_refused t.2.among);
        same_program = made.reading_program prog id secret makes R fits_reset allows received all_received;
        same_secret = secret_of_is (load_in reading.loading.load) secret.used (made.reading_load prog id secret makes R fits_reset allows received all_received);
        none_refused = sent_accepted.none_refused;
      }

exists : (R : Reset) (ram uds prog : List ℕ) (flag : Bool) (uss : List ℕ)
    → Admitted R → AsksClient R → length ram ≡ length R.ram
    → length uds ≡ 8 → Words uds → 1 ≤ length prog → length prog ≤ length ram → AllowedOn R (blake2s [] prog 32)
    → length uss ≡ 32 → StartOf R ram uds prog (cond flag (some uss) none)
exists R ram uds prog flag uss lent client same_length eight typed least fits allows secret =
    let s = lent.ram_small in
    let m : Made prog 0 (secret_of flag uss) =
    record { accepted = ((making.client).accepts (length prog) 0 0).1 (least, omega arith, omega arith, omega arith); uss_length = secret } in
    start_of R ram uds prog 0 (secret_of flag uss) m lent client same_length eight typed fits allows

pub verified_boot : VerifiedBoot
verified_boot =
    record {
      exactly = exactly;
      gives = gives;
      one_reading = λ S w w'.
          let o = one_reading S.reset (gathered_bytes (accepted_of S)) w w' in
          (o.0, o.1, o.2, one_basis S.reset (gathered_bytes (accepted_of S)) w w');
      begin_accepted = begin_accepted;
      begin_waits = begin_waits;
      client_begins = client_begins;
      client_digests = client_digests;
      flash_exactly = flash_exactly;
      flash_gives = λ R t. let b = (flash_exactly R).0 t in flash_gives R b.0 b.1 b.2 b.3;
      begin_stops = begin_stops;
      injective = λ t t'. same_basis (basis t) (basis t') (sound t) (sound t');
      table = table;
      whole_when = whole_when;
      exists = exists;
      flash_exists = flash_exists;
    }
