-- A value with nothing behind it.
use Rattle.byte_fields.specs.Fields.{Reading, gives, ◌>>=◌, ended}

-- what is read, after which nothing follows
unfoldable pub alone : {A : Type 0} → Reading A → Reading A
alone reads = do
  value ← reads
  done ← ended
  gives value
