mod Counted
mod Typed
