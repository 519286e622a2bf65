mod NoneLeft
