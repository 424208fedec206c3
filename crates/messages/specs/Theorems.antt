-- What is proved about the words besides the promises. The proof is `messages` in proofs/Proved.antt.
use Rattle.std.specs.Prelude.{ℕ, ◌≤◌, ◌≡◌, ◌∷◌, ◌++◌, length}
use Rattle.endian.specs.Lists.{zeros}
use Rattle.text.specs.Text.{ascii}
use Rattle.upload.specs.Upload.{sent_frame}
use Rattle.upload.specs.Theorems.{small}
use Rattle.upload.specs.declared.Job.{Job}
use Rattle.upload.specs.declared.Exchange.{Exchange}
use Rattle.upload.specs.declared.Failure.{Failure}
use Rattle.upload.specs.declared.Failure.TheVariants.{NoAnswer, UnexpectedReply}
use Rattle.messages.specs.Messages.{message_of, loaded_line, started_line, progress_line}

pub record Messages : Type 0 where
  -- every message fits a text, and so does every other line
  pub fits : (job : Job) (x : Exchange) (f : Failure) → length x.reply ≡ 129 → length (message_of job x f) ≤ 512
  pub loaded_fits : (job : Job) → length job.digest ≡ 32 → length (loaded_line job) ≤ 512
  pub started_fits : length started_line ≤ 512
  pub progress_fits : (n done seconds : ℕ) → length (progress_line n done seconds) ≤ 512
  -- literal messages
  pub silent : message_of small (sent_frame small 0) NoAnswer
      ≡ ascii "no answer to frame 0 (the load) in 0.2 s of silence; is the head waiting for a program? has it stopped?"
  pub other : message_of small (record { k = 1; got = 5; reply = 0x31 ∷ 0x06 ∷ zeros 127; ticks = 2 }) UnexpectedReply
      ≡ ascii "the reply to frame 1 (block 1 of 1) is not the expected one (43), its header differs: 3106000000; reset the head and load again"
  pub disagrees : message_of small (record { k = 0; got = 5; reply = 0x31 ∷ 0x04 ∷ 1 ∷ zeros 126; ticks = 2 }) UnexpectedReply
      ≡ ascii "the reply to frame 0 (the load) is not the expected one (43), its status is not bit 2 of its header: 3104010000; reset the head and load again"
  pub half : progress_line 254 1 2 ≡ 13 ∷ ascii "[################................] 1 of 2 blocks, 50%, 63 bytes/s" ++ 27 ∷ ascii "[K"
