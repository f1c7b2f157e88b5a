-- How files are opened to be written.
use Rattle.std.specs.Prelude.{Bool, true, false}
use Rattle.std.specs.declared.fs.options.OpenOptions.{OpenOptions}

-- a file is opened to be written, and made if there is none, but not emptied; or it is made, if one
-- that is there is to be kept
abbrev pub making_options : Bool → OpenOptions
making_options no_clobber = record {
  read = false;
  write = true;
  append = false;
  truncate = false;
  create = true;
  create_new = no_clobber;
  mode = 0o666;
}
